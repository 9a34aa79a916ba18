-- The laws of the lines of a segment.
-- Assumes nothing.
use mathlib.Core.Path.{◌≡◌, refl, sym, ap, ap₂, ◌∙◌}
use mathlib.Core.Bool.{Bool, true, false}
use mathlib.Core.List.{List, []}
use Prim.Native.Nat.{ℕ, ◌+◌, ◌*◌, ◌^◌, ◌≤◌, zero-le}
use native.Mathlib.Nat.{mul_assoc, mul-le-mul, le_refl}
use native.Mathlib.Omega.{arith}
use borrow.Author.Tests.{eq-eqb, ne_eqb, eqb-true, eqb-false}
use lib.Dec.{eqb}
use lib.ListN.{length}
use Rattle.segment.specs.declared.Description.{Description}
use Rattle.segment.specs.Segment.{IsSegment, intervals_of, size_of, stored_of, length_of}
use Rattle.segment.proofs.Laws.{sizes, stored_intervals}
use Rattle.command.specs.declared.Command.{Command}
use Rattle.interval.specs.declared.Rules.{Rules}
use Rattle.interval.specs.declared.Place.{Place}
use Rattle.judge.specs.Judge.{Run}
use Rattle.command.specs.Sixteen.{sixteen}
use Rattle.sides.specs.declared.Side.TheVariants.{Stored}
use Rattle.segment.proofs.Places.{span_all}
use Rattle.rules.specs.Rules.{rules_of, start_of}
use Rattle.rules.specs.ReadAll.{read_all}
use Rattle.rules.proofs.Laws.{side_run}
use Rattle.writing.specs.declared.Pen.{Pen}
use Rattle.sheet.specs.declared.Counts.{Counts}
use Rattle.sheet.specs.Sheet.{PrintedLines, Room}
use Rattle.body.specs.Body.{block_lines}
use Rattle.sheet.proofs.SheetLaws.{lines_as, counts, room_next, room_less, first_room}
use Rattle.sheet.proofs.SheetLaws as sheets
use Rattle.body.proofs.BlockLaws.{blocks_length}
use Rattle.contents.specs.Contents.{lines_of}

-- ---- the lines of a segment
module _ (d : Description) (s : List ℕ) (g : IsSegment d) (long : length_of d ≡ length s) where
  pub segment_run : (d.kind ≡ 0 → ⊥) → Run (rules_of Stored d (read_all d)) d.count (start_of d (read_all d)) s
  unfolding sixteen
  segment_run n = side_run Stored d (read_all d) d.count s g n g.count g.end (sym long ∙ sym (span_all d))

  -- a line for nine bytes at the least
  pub lines_few : (d.kind ≡ 0 → ⊥) → d.count * (rules_of Stored d (read_all d)).intervals * 9 ≤ length s
  unfolding rules_of length_of
  lines_few n =
      let nine : intervals_of d * 9 ≤ stored_of d =
      rw (stored_intervals d g n)
      (mul-le-mul {n₁ = intervals_of d} {m₁ = 9} {n₂ = intervals_of d} {m₂ = size_of d + 8} (le_refl _) (omega (arith, (sizes d g).size_least))) in
      rw (← long, mul_assoc) (mul-le-mul {n₁ = d.count} {m₁ = intervals_of d * 9} {n₂ = d.count} {m₂ = stored_of d} (le_refl _) nine)

  pub lines_none : d.kind ≡ 0 → lines_of d s ≡ []
  unfolding lines_of
  lines_none e = rw (eq-eqb d.kind 0 e)

  pub lines_plain : {p : Pen} {c : Counts} → d.kind ≡ 0 → PrintedLines (lines_of d s) p c p c
  lines_plain {p} {c} e = rw (lines_none e) (sheets.lines_none p c)

  pub lines_are : (d.kind ≡ 0 → ⊥) → lines_of d s ≡ block_lines (rules_of Stored d (read_all d)) d.count (start_of d (read_all d)) s
  unfolding lines_of
  lines_are n = rw (ne_eqb d.kind 0 n)

  module _ {c : Command} {r : Rules} {p : Place} (n : d.kind ≡ 0 → ⊥) (ec : c ≡ read_all d) (er : r ≡ rules_of Stored d c) (ep : p ≡ start_of d c) where
    rules_are : r ≡ rules_of Stored d (read_all d)
    rules_are = er ∙ ap (rules_of Stored d) ec

    start_is : p ≡ start_of d (read_all d)
    start_is = ep ∙ ap (start_of d) ec

    pub blocks_run : Run r d.count p s
    blocks_run = rw (rules_are, start_is) (segment_run n)

    pub blocks_room : {q : Pen} {k : Counts} → Room q k (length s) → Room q k (d.count * r.intervals)
    blocks_room room = rw rules_are (room_less _ _ (omega (arith, lines_few n)) room)

    pub blocks_printed : {q z : Pen} {k l : Counts} → PrintedLines (block_lines r d.count p s) q k z l → PrintedLines (lines_of d s) q k z l
    blocks_printed w = lines_as (ap₂ (λ (x : Rules) (y : Place). block_lines x d.count y s) rules_are start_is ∙ sym (lines_are n)) w

  pub lines_length : length (lines_of d s) * 9 ≤ length s
  lines_length = by (eqb d.kind 0) refl
    where
      by : (b : Bool) → eqb d.kind 0 ≡ b → length (lines_of d s) * 9 ≤ length s
      by true e = rw (lines_none (eqb-true _ _ e)) zero-le
      by false e =
          let n = eqb-false _ _ e in
          rw (lines_are n, blocks_length (rules_of Stored d (read_all d)) d.count (start_of d (read_all d)) s) (lines_few n)

  -- the place after the lines
  pub lines_end : {p q : Pen} {c : Counts} → p.at ≤ 2 ^ 16 → length s ≤ 65536 → PrintedLines (lines_of d s) p (counts 0 0 0) q c → q.at ≤ 2 ^ 31
  lines_end {p} small few w =
      let room : Room p (counts 0 0 0) (length (lines_of d s) + 0) = first_room p _ small (omega (arith, lines_length)) in
      omega (arith, (room_next 0 room w).at)

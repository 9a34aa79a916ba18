-- What is asked of a listing: its last line counts its own lines; there is one line for each interval; no line is faulty
-- exactly where judging the whole finds no fault (line by line: `Indexed`). Assumes nothing.
use mathlib.Core.Path.{◌≡◌, refl, ap, ◌∙◌}
use mathlib.Core.Logic.{◌↔◌}
use mathlib.Core.Bool.{Bool, true, false, ◌&&◌, cond, true≢false}
use mathlib.Core.List.{List, ◌++◌}
use Prim.Native.Nat.{ℕ, zero, suc, ◌+◌, ◌*◌}
use native.Mathlib.Omega.{arith}
use lib.ListN.{length, drop}
use Rattle.answer.specs.Answer as answers
use Rattle.answer.specs.declared.Field.TheVariants as fields
use Rattle.segment.specs.declared.Description.{Description}
use Rattle.segment.specs.Segment.{IsSegment, intervals_of, length_of}
use Rattle.interval.specs.declared.Rules.{Rules}
use Rattle.interval.specs.declared.Place.{Place}
use Rattle.field.specs.Field.{data_of, field_of}
use Rattle.interval.specs.Interval.{any_escapes, guard_wrong, application_wrong, reference_wrong, judge_pieces, judge_interval}
use Rattle.judge.specs.FirstOf.{first_of}
use Rattle.judge.specs.Judge.{judge_intervals, judge_block, judge_blocks, next_interval, next_block}
use Rattle.answer.proofs.Ladder.{or_else_good}
use Rattle.command.specs.Sixteen.{sixteen}
use Rattle.sides.specs.declared.Side.TheVariants.{Stored}
use Rattle.rules.specs.Rules.{columns_of, application_known, rules_of, start_of}
use Rattle.lines.specs.Lines.{worded, state_of, line_of}
use Rattle.sheet.specs.Sheet.{faulty, skips, count_of, lines_text}
use Rattle.paragraph.specs.Paragraph.{interval_lines, lines_in}
use Rattle.body.specs.Body.{block_lines}
use Rattle.closing.specs.Closing.{numbers_text}
use Rattle.rules.specs.ReadAll.{read_all}
use Rattle.contents.specs.Contents.{lines_of}
use Rattle.page.specs.Page.{header_text, total_text, listed_text}
use Rattle.sheet.proofs.SheetLaws.{count_append}
use Rattle.body.proofs.BlockLaws.{blocks_length}
use Rattle.contents.proofs.SegmentLaws.{lines_none, lines_are}

-- ---- the last line's numbers are those of the lines that stand above it
pub totals_count : (d : Description) (s : List ℕ)
    → listed_text d s ≡ header_text ++ (lines_text (lines_of d s) ++ numbers_text (length (lines_of d s)) (count_of faulty (lines_of d s)) (count_of skips (lines_of d s)))
unfolding listed_text total_text
totals_count d s = refl

-- ---- a line for each interval, and none in type 0
pub lines_all : (d : Description) (s : List ℕ) → IsSegment d → length_of d ≡ length s → (d.kind ≡ 0 → ⊥) → length (lines_of d s) ≡ d.count * intervals_of d
unfolding rules_of
lines_all d s g long n =
    ap length (lines_are d s g long n) ∙ blocks_length (rules_of Stored d (read_all d)) d.count (start_of d (read_all d)) s

pub lines_plain : (d : Description) (s : List ℕ) → IsSegment d → length_of d ≡ length s → d.kind ≡ 0 → length (lines_of d s) ≡ 0
lines_plain d s g long e = ap length (lines_none d s g long e)

-- ---- no line is faulty where judging finds no fault
none_of_two : (a b : ℕ) → (a + b ≡ 0) ↔ ((a ≡ 0) × (b ≡ 0))
none_of_two a b = (λ e. (omega arith, omega arith), λ two. omega (arith, two.0, two.1))

both_ways : {A B C D P Q : Type 0} → (P ↔ (A × B)) → (Q ↔ (C × D)) → (A ↔ C) → (B ↔ D) → (P ↔ Q)
both_ways p q x y =
    (λ z. q.1 (x.0 (p.0 z).0, y.0 (p.0 z).1), λ z. p.1 (x.1 (q.0 z).0, y.1 (q.0 z).1))

and_false : (a b : Bool) → a ≡ false → a && b ≡ false
and_false true b e = absurd (true≢false e)
and_false false b e = refl

module _ (r : Rules) (plain : r.application ≡ false) where
  fault : (a b : ℕ) (g x : Bool)
      → (cond g (answers.wrong fields.Guard a b) (cond x (answers.wrong fields.Reference a b) answers.good) ≡ answers.good)
      ↔ (faulty (worded (cond g (answers.wrong fields.Guard a b) (cond x (answers.wrong fields.Reference a b) answers.good))) ≡ 0)
  fault a b true x = (λ e. let z : ◌≡◌ {A = ℕ} 0 1 = cc in absurd (omega arith), λ e. absurd (omega arith))
  fault a b false true = (λ e. let z : ◌≡◌ {A = ℕ} 0 1 = cc in absurd (omega arith), λ e. absurd (omega arith))
  fault a b false false = (λ e. refl, λ e. refl)

  not_applied : (f : List ℕ) → application_wrong r f ≡ false
  unfolding application_wrong
  not_applied f = and_false r.application _ plain

  pub fault_interval : (p : Place) (s : List ℕ) → (judge_interval r p s ≡ answers.good) ↔ (faulty (worded (judge_interval r p s)) ≡ 0)
  unfolding judge_interval judge_pieces
  fault_interval p s = rw (not_applied (field_of r.size s)) (fault p.address p.interval (guard_wrong r (data_of r.size s) (field_of r.size s)) (reference_wrong r p (field_of r.size s)))

  faults_judged : (k number : ℕ) (p : Place) (s : List ℕ) → (first_of (judge_interval r) next_interval (r.size + 8) k p s ≡ answers.good) ↔ (count_of faulty (interval_lines r false k number p s) ≡ 0)
  unfolding first_of interval_lines count_of line_of state_of
  faults_judged zero number p s = (λ e. refl, λ e. refl)
  faults_judged (suc k) number p s =
      both_ways (or_else_good (judge_interval r p s) _) (none_of_two (faulty (worded (judge_interval r p s))) _) (fault_interval p s)
      (faults_judged k (number + 1) (next_interval p) (drop (r.size + 8) s))

  faults_skipped : (k number : ℕ) (p : Place) (s : List ℕ) → count_of faulty (interval_lines r true k number p s) ≡ 0
  unfolding interval_lines count_of line_of state_of
  faults_skipped zero number p s = refl
  faults_skipped (suc k) number p s = omega (arith, faults_skipped k (number + 1) (next_interval p) (drop (r.size + 8) s))

  fault_block : (p : Place) (s : List ℕ) → (judge_block r p s ≡ answers.good) ↔ (count_of faulty (lines_in r p s) ≡ 0)
  unfolding judge_block judge_intervals lines_in
  fault_block p s =
      elim (any_escapes r.escape r.size r.intervals s)
      as (λ b. (cond b answers.good (first_of (judge_interval r) next_interval (r.size + 8) r.intervals p s) ≡ answers.good)
      ↔ (count_of faulty (interval_lines r b r.intervals 0 p s) ≡ 0))
      [ true ↦ (λ e. faults_skipped r.intervals 0 p s, λ e. refl) | false ↦ faults_judged r.intervals 0 p s ]

  faults_blocks : (k : ℕ) (p : Place) (s : List ℕ) → (judge_blocks r k p s ≡ answers.good) ↔ (count_of faulty (block_lines r k p s) ≡ 0)
  unfolding judge_blocks first_of block_lines count_of
  faults_blocks zero p s = (λ e. refl, λ e. refl)
  faults_blocks (suc k) p s =
      both_ways (or_else_good (judge_block r p s) _) (rw count_append (none_of_two _ _)) (fault_block p s)
      (faults_blocks k (next_block r.intervals p) (drop (r.intervals * (r.size + 8)) s))

pub read_plain : (d : Description) → (rules_of Stored d (read_all d)).application ≡ false
unfolding rules_of sixteen columns_of application_known
read_plain d = refl

-- the whole segment, judged with what code 001 of a 16-byte READ checks, is good exactly where no line is faulty
pub faults_are_judged : (d : Description) (s : List ℕ) → IsSegment d → length_of d ≡ length s → (d.kind ≡ 0 → ⊥)
    → (judge_blocks (rules_of Stored d (read_all d)) d.count (start_of d (read_all d)) s ≡ answers.good) ↔ (count_of faulty (lines_of d s) ≡ 0)
faults_are_judged d s g long n =
    rw (lines_are d s g long n) (faults_blocks (rules_of Stored d (read_all d)) (read_plain d) d.count (start_of d (read_all d)) s)

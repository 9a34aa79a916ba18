-- A block has a fault exactly where the listing of the same segment has a line in state `guard` or `ref` for it.
-- Assumes nothing.
use mathlib.Core.Path.{◌≡◌, refl, sym, ap, ◌∙◌}
use mathlib.Core.Logic.{◌↔◌, ◌⊎◌, inl, inr}
use mathlib.Core.Bool.{Bool, true, false, cond, true≢false}
use mathlib.Core.List.{List}
use Prim.Native.Nat.{ℕ, suc, ◌+◌, ◌*◌, ◌/◌, ◌%◌, ◌^◌, ◌≤◌, ◌<◌}
use native.Mathlib.Nat.{mod-lt, suc-mul, mul-le-mul_right, div-add-mod', div-lt_iff_lt-mul}
use native.Mathlib.Omega.{arith}
use borrow.Author.Tests.{eqb-true, eqb-false, not-true, not-false}
use lib.Dec.{eqb, lit<, lit≤}
use lib.ListN.{length, get_or}
use Rattle.answer.specs.Answer.{is_good, Answer}
use Rattle.answer.specs.Answer as answers
use Rattle.answer.proofs.Ladder.{good_is, not_both}
use Rattle.segment.specs.declared.Description.{Description}
use Rattle.segment.specs.Segment.{IsSegment, intervals_of, size_of, stored_of, length_of}
use Rattle.segment.specs.Places.{block_at, interval_at}
use Rattle.segment.proofs.Laws.{sizes}
use Rattle.command.specs.Sixteen.{sixteen}
use Rattle.interval.specs.declared.Place.{Place}
use Rattle.interval.specs.Interval.{judge_interval}
use Rattle.words.proofs.Turns.{after, piece_at}
use Rattle.judge.specs.FirstOf.{first_of}
use Rattle.judge.specs.Judge.{judge_intervals, judge_block, next_interval}
use Rattle.judge.proofs.FirstLaws.{first_good, first_found}
use Rattle.sides.specs.declared.Side.TheVariants.{Stored}
use Rattle.rules.specs.Rules.{application_known, reference_known, first_tag, rules_of}
use Rattle.rules.specs.Intervals.{place_at, skipped, verdict_at}
use Rattle.rules.specs.ReadAll.{read_all}
use Rattle.rules.proofs.Places.{tag_small, place_is, block_place}
use Rattle.lines.specs.declared.Line.{Line}
use Rattle.lines.specs.declared.State.{State}
use Rattle.lines.specs.declared.State.TheVariants.{Skipped, Guard, Ref, Ok}
use Rattle.sheet.specs.Sheet.{faulty}
use Rattle.contents.specs.Contents.{lines_of}
use Rattle.linewise.specs.Indexed.{line_at}
use Rattle.linewise.proofs.Demands.{lines_all, lines_plain}
use Rattle.linewise.proofs.Indexed.{line_at_lem, faulty_exactly}
use Rattle.scrub.specs.Scrub.{faulty_at}
use Rattle.scrub.proofs.Judging.{fault_plain, fault_judged}
use Rattle.series.specs.Faults.{recorded, FaultyLine}

-- the states that count as a fault
guard_or_ref : (x : State) → (faulty x ≡ 0 → ⊥) → (x ≡ Guard) ⊎ (x ≡ Ref)
guard_or_ref Skipped n = absurd (n refl)
guard_or_ref Guard n = inl refl
guard_or_ref Ref n = inr refl
guard_or_ref Ok n = absurd (n refl)

not_right : (x : State) → (x ≡ Guard) ⊎ (x ≡ Ref) → faulty x ≡ 0 → ⊥
not_right x (inl e) z = absurd (omega (arith, sym (ap faulty e) ∙ z))
not_right x (inr e) z = absurd (omega (arith, sym (ap faulty e) ∙ z))

-- ---- the intervals of a block, where they stand in the segment
module _ (d : Description) (s : List ℕ) (j : ℕ) where
  abbrev judging : Place → List ℕ → Answer
  judging = judge_interval (rules_of Stored d (read_all d))

  small : first_tag d (read_all d) < 2 ^ 32
  unfolding sixteen
  small = tag_small d (read_all d) (lit< tt)

  piece_is : (i : ℕ) → piece_at judging next_interval (size_of d + 8) (place_at d (read_all d) j 0) (block_at d s j) i ≡ judging (place_at d (read_all d) j i) (interval_at d s j i)
  piece_is i =
      ap (λ (p : Place). judging p (interval_at d s j i))
      (ap (after next_interval i) (sym (block_place d (read_all d) small j)) ∙ place_is d (read_all d) small j i)

  abbrev in_block : Answer
  in_block = first_of judging next_interval (size_of d + 8) (intervals_of d) (place_at d (read_all d) j 0) (block_at d s j)

  abbrev judged_block : Answer
  judged_block = judge_block (rules_of Stored d (read_all d)) (place_at d (read_all d) j 0) (block_at d s j)

  block_is : judged_block ≡ cond (skipped Stored d (read_all d) s j) answers.good in_block
  unfolding judge_block judge_intervals rules_of
  block_is = refl

  block_right : judged_block ≡ answers.good → (i : ℕ) → i < intervals_of d → verdict_at Stored d (read_all d) s j i ≡ answers.good
  block_right e i within = by (skipped Stored d (read_all d) s j) (sym block_is ∙ e)
    where
      by : (b : Bool) → cond b answers.good in_block ≡ answers.good
          → cond b answers.good (judging (place_at d (read_all d) j i) (interval_at d s j i)) ≡ answers.good
      by true f = refl
      by false f =
          sym (piece_is i) ∙ (first_good judging next_interval (size_of d + 8) (intervals_of d) (place_at d (read_all d) j 0) (block_at d s j)).0 f i within

  block_wrong : is_good judged_block ≡ false → (i : ℕ) × ((i < intervals_of d) × (is_good (verdict_at Stored d (read_all d) s j i) ≡ false))
  block_wrong e = by (skipped Stored d (read_all d) s j) refl (sym (ap is_good block_is) ∙ e)
    where
      by : (b : Bool) → skipped Stored d (read_all d) s j ≡ b → is_good (cond b answers.good in_block) ≡ false
          → (i : ℕ) × ((i < intervals_of d) × (is_good (verdict_at Stored d (read_all d) s j i) ≡ false))
      by true q f = absurd (true≢false f)
      by false q f =
          let w = first_found judging next_interval (size_of d + 8) (intervals_of d) (place_at d (read_all d) j 0) (block_at d s j) f in
          (w.at, (w.within, rw q (ap is_good (sym (piece_is w.at) ∙ w.here) ∙ w.wrong)))

-- ---- the lines for the block in the listing
module _ (d : Description) (s : List ℕ) (g : IsSegment d) (long : length_of d ≡ length s) (j : ℕ) (block : j < d.count) (x : Line) where
  listed : (d.kind ≡ 0 → ⊥) → faulty_at d s j ≡ true → FaultyLine d s j x
  unfolding line_at
  listed n e =
      let w = block_wrong d s j (not-true _ (sym (fault_judged d s j n) ∙ e)) in
      let line = line_at_lem d s g j w.0 w.1.0 long n block x in
      let faulty_line : faulty (line_at d s j w.0).state ≡ 0 → ⊥ = λ z. not_both _ ((faulty_exactly d s g j w.0 w.1.0).1 z) w.1.1 in
      record {
        line = j * intervals_of d + w.0;
        within = rw (lines_all d s g long n) (before w.0 w.1.0);
        address = ap (λ (l : Line). l.address) line;
        state = rw line (guard_or_ref (line_at d s j w.0).state faulty_line);
      }
    where
      before : (i : ℕ) → i < intervals_of d → j * intervals_of d + i < d.count * intervals_of d
      before i h =
          let more : suc j * intervals_of d ≤ d.count * intervals_of d = mul-le-mul_right (intervals_of d) (omega arith) in
          omega (arith, suc-mul j (intervals_of d))

  -- a faulty line of the block's own tells of a fault
  told_by : (d.kind ≡ 0 → ⊥) → (i : ℕ) → i < intervals_of d → ((line_at d s j i).state ≡ Guard) ⊎ ((line_at d s j i).state ≡ Ref) → faulty_at d s j ≡ true
  told_by n i within f = by (faulty_at d s j) refl
    where
      by : (b : Bool) → faulty_at d s j ≡ b → b ≡ true
      by true e = refl
      by false e =
          let right = block_right d s j (good_is (judged_block d s j) (not-false _ (sym (fault_judged d s j n) ∙ e))) i within in
          absurd (not_right (line_at d s j i).state f ((faulty_exactly d s g j i within).0 right))

  -- which block a line is of, by its number
  line_of : (d.kind ≡ 0 → ⊥) → FaultyLine d s j x → (i : ℕ) × ((i < intervals_of d) × (((line_at d s j i).state ≡ Guard) ⊎ ((line_at d s j i).state ≡ Ref)))
  unfolding line_at
  line_of n l =
      let some = (sizes d g).intervals_least in
      let i = l.line % intervals_of d in
      let q = l.line / intervals_of d in
      let within : i < intervals_of d = mod-lt l.line some in
      let whole : q * intervals_of d + i ≡ l.line = div-add-mod' l.line (intervals_of d) in
      let inside : q < d.count = (div-lt_iff_lt-mul some).1 (rw (lines_all d s g long n) at l.within) in
      let line = ap (λ (k : ℕ). get_or (lines_of d s) k x) (sym whole) ∙ line_at_lem d s g q i within long n inside x in
      let here : q ≡ j = omega (arith, sym (ap (λ (y : Line). y.address) line) ∙ l.address) in
      (i, (within, rw (line, here) at l.state))

  -- "judges stored intervals as the listing program does"
  pub faulty_exactly_where_listed : (faulty_at d s j ≡ true) ↔ FaultyLine d s j x
  faulty_exactly_where_listed = by (eqb d.kind 0) refl
    where
      by : (b : Bool) → eqb d.kind 0 ≡ b → (faulty_at d s j ≡ true) ↔ FaultyLine d s j x
      by true e =
          let k = eqb-true d.kind 0 e in (
            λ f. absurd (true≢false (sym f ∙ fault_plain d s j k)),
            λ l. absurd (omega (arith, l.within, lines_plain d s g long k)),
          )
      by false e =
          let n = eqb-false d.kind 0 e in
          (listed n, λ l. let w = line_of n l in told_by n w.0 w.1.0 w.1.1)

-- ---- the listing program's own lines: a record has no ATO, and the scrub may be told any
-- the application tag is not looked at, so ATO makes no difference
pub fault_whatever_ato : (d : Description) (s : List ℕ) (j : ℕ) → faulty_at d s j ≡ faulty_at (recorded d) s j
unfolding faulty_at sixteen intervals_of size_of application_known reference_known first_tag rules_of
fault_whatever_ato d s j = refl

recorded_segment : (d : Description) → IsSegment d → IsSegment (recorded d)
recorded_segment d g =
    record {
      kind = g.kind;
      ato = lit≤ tt;
      least = g.least;
      most = g.most;
      eights = g.eights;
      exponent = g.exponent;
      plain = g.plain;
      some = g.some;
      count = g.count;
      end = g.end;
    }

recorded_length : (d : Description) → length_of (recorded d) ≡ length_of d
unfolding length_of stored_of intervals_of
recorded_length d = refl

pub faulty_exactly_where_the_program_lists : (d : Description) (s : List ℕ) → IsSegment d → length_of d ≡ length s → (j : ℕ) → j < d.count → (x : Line)
    → (faulty_at d s j ≡ true) ↔ FaultyLine (recorded d) s j x
faulty_exactly_where_the_program_lists d s g long j block x =
    let e = fault_whatever_ato d s j in
    let listed = faulty_exactly_where_listed (recorded d) s (recorded_segment d g) (recorded_length d ∙ long) j block x in
    (λ f. listed.0 (sym e ∙ f), λ l. e ∙ listed.1 l)

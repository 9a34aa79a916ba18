-- Line j × n + i of a listing, counted from 0 behind the header, is that of interval i in block j: the address W + j, the interval i, its stored bytes and its
-- state; and the state is `guard` or `ref` exactly where judging that interval finds a fault.
-- Assumes nothing.
use mathlib.Core.Path.{◌≡◌, refl, sym, ap, ◌∙◌}
use mathlib.Core.Logic.{◌↔◌}
use mathlib.Core.Bool.{Bool, true, false, not, ◌&&◌, cond}
use mathlib.Core.List.{List, ◌++◌}
use Prim.Native.Nat.{ℕ, zero, suc, ◌+◌, ◌*◌, ◌%◌, ◌^◌, ◌<◌}
use native.Mathlib.Nat.{add-zero, zero-add, zero-mul, suc-mul, mod-add-mod}
use native.Mathlib.Omega.{arith}
use borrow.Author.Tests.{eqb-true, eq-eqb}
use lib.Dec.{eqb, lit<}
use lib.ListN.{length, get_or, drop, get_or-append}
use lib.Seq.{get_or-append-add}
use Rattle.words.proofs.Parts.{drop_more}
use Rattle.answer.specs.Answer as answers
use Rattle.segment.specs.declared.Description.{Description}
use Rattle.segment.specs.Segment.{IsSegment, intervals_of, length_of}
use Rattle.segment.specs.Places.{interval_at}
use Rattle.interval.specs.declared.Rules.{Rules}
use Rattle.interval.specs.declared.Place.{Place}
use Rattle.field.specs.Field.{stored_reference}
use Rattle.interval.specs.Interval.{any_escapes, judge_interval}
use Rattle.words.proofs.Turns.{after}
use Rattle.judge.specs.Judge.{next_interval, next_block}
use Rattle.command.specs.Sixteen.{sixteen}
use Rattle.sides.specs.declared.Side.TheVariants.{Stored}
use Rattle.rules.specs.Rules.{first_tag, rules_of, start_of}
use Rattle.rules.specs.Intervals.{place_at, skipped, verdict_at}
use Rattle.rules.proofs.Places.{tag_small, place_is}
use Rattle.lines.specs.declared.Line.{Line}
use Rattle.lines.specs.declared.State.TheVariants.{Skipped}
use Rattle.lines.specs.Lines.{worded, state_of, line_of}
use Rattle.sheet.specs.Sheet.{faulty}
use Rattle.paragraph.specs.Paragraph.{interval_lines, lines_in}
use Rattle.body.specs.Body.{block_lines}
use Rattle.rules.specs.ReadAll.{read_all}
use Rattle.contents.specs.Contents.{lines_of}
use Rattle.linewise.specs.Indexed.{field_at, escaped_at, state_at, line_at}
use Rattle.paragraph.proofs.ParagraphLaws.{block_length}
use Rattle.contents.proofs.SegmentLaws.{lines_are}
use Rattle.linewise.proofs.States.{state_in_words}
use Rattle.linewise.proofs.Demands.{fault_interval, read_plain}

-- ---- the line of an interval of a block, and of k blocks; x is what a list that ends before it would give
module _ (r : Rules) (x : Line) where
  interval_line : (skipped : Bool) (n i number : ℕ) (p : Place) (s : List ℕ) → i < n
      → get_or (interval_lines r skipped n number p s) i x ≡ line_of r skipped (number + i) (after next_interval i p) (drop (i * (r.size + 8)) s)
  unfolding interval_lines after
  interval_line skipped zero i number p s h = absurd (omega arith)
  interval_line skipped (suc n) zero number p s h = rw (add-zero, zero-mul) refl
  interval_line skipped (suc n) (suc i) number p s h =
      let further : number + 1 + i ≡ number + suc i = omega arith in
      interval_line skipped n i (number + 1) (next_interval p) (drop (r.size + 8) s) (omega arith)
      ∙ rw (further, drop_more (r.size + 8) i s) refl

  abbrev line_in : Place → List ℕ → ℕ → Line
  line_in p s i =
      line_of r (any_escapes r.escape r.size r.intervals s) i (after next_interval i p) (drop (i * (r.size + 8)) s)

  line_in_lem : (p : Place) (s : List ℕ) (i : ℕ) → i < r.intervals → get_or (lines_in r p s) i x ≡ line_in p s i
  unfolding lines_in
  line_in_lem p s i h = interval_line _ r.intervals i 0 p s h ∙ rw zero-add refl

  block_line : (k j i : ℕ) (p : Place) (s : List ℕ) → j < k → i < r.intervals
      → get_or (block_lines r k p s) (j * r.intervals + i) x ≡ line_in (after (next_block r.intervals) j p) (drop (j * (r.intervals * (r.size + 8))) s) i
  unfolding block_lines after
  block_line zero j i p s h l = absurd (omega arith)
  block_line (suc k) zero i p s h l =
      rw (zero-mul r.intervals, zero-add i, zero-mul (r.intervals * (r.size + 8)))
      (get_or-append (lines_in r p s) _ x i (rw (block_length r p s) l) ∙ line_in_lem p s i l)
  block_line (suc k) (suc j) i p s h l =
      let P = r.intervals * (r.size + 8) in
      let others = block_lines r k (next_block r.intervals p) (drop P s) in
      let further : suc j * r.intervals + i ≡ length (lines_in r p s) + (j * r.intervals + i) = omega (arith, block_length r p s, suc-mul j r.intervals) in
      ap (λ (n : ℕ). get_or (lines_in r p s ++ others) n x) further
      ∙ get_or-append-add (lines_in r p s) others (j * r.intervals + i) x
      ∙ block_line k j i (next_block r.intervals p) (drop P s) (omega arith) l
      ∙ rw (drop_more P j s) refl

-- ---- of a segment
small : (d : Description) → first_tag d (read_all d) < 2 ^ 32
unfolding sixteen
small d = tag_small d (read_all d) (lit< tt)

-- in type 1 a block has one interval, and the tag expected there is the address's low four bytes
one_interval : (d : Description) → IsSegment d → d.kind ≡ 1 → intervals_of d ≡ 1
unfolding intervals_of
one_interval d g k = ap (λ (e : ℕ). 2 ^ e) (g.plain (omega (arith, k)))

module _ (d : Description) (s : List ℕ) (g : IsSegment d) (j i : ℕ) (within : i < intervals_of d) where
  tag_is : d.kind ≡ 1 → (place_at d (read_all d) j i).tag ≡ (d.first + j) % 2 ^ 32
  unfolding sixteen first_tag
  tag_is k =
      let one : intervals_of d ≡ 1 = one_interval d g k in
      let here : j * 1 + i ≡ j = omega (arith, one) in
      rw (eq-eqb d.kind 1 k, one, here) (mod-add-mod d.first (2 ^ 32) j)

  reference_is : (b : Bool) (f : ℕ) → eqb d.kind 1 ≡ b → (b && not (eqb f (place_at d (read_all d) j i).tag)) ≡ (b && not (eqb f ((d.first + j) % 2 ^ 32)))
  reference_is true f e = ap (λ (t : ℕ). not (eqb f t)) (tag_is (eqb-true d.kind 1 e))
  reference_is false f e = refl

  escape_is : skipped Stored d (read_all d) s j ≡ escaped_at d s j
  unfolding rules_of sixteen
  escape_is = refl

  -- the state is what judging with the rules of `read_all` says
  state_is : state_of (rules_of Stored d (read_all d)) (skipped Stored d (read_all d) s j) (place_at d (read_all d) j i) (interval_at d s j i) ≡ state_at d s j i
  state_is =
      state_in_words d (skipped Stored d (read_all d) s j) (place_at d (read_all d) j i) (interval_at d s j i)
      ∙ rw (reference_is (eqb d.kind 1) (stored_reference (field_at d s j i)) refl, escape_is) refl

  line_is : line_of (rules_of Stored d (read_all d)) (skipped Stored d (read_all d) s j) i (place_at d (read_all d) j i) (interval_at d s j i) ≡ line_at d s j i
  unfolding line_of line_at rules_of sixteen
  line_is = rw state_is refl

  -- line j × n + i: the address W + j, the interval i, its bytes and its state (x is what get_or gives past the end)
  pub line_at_lem : length_of d ≡ length s → (d.kind ≡ 0 → ⊥) → j < d.count → (x : Line)
      → get_or (lines_of d s) (j * intervals_of d + i) x ≡ line_at d s j i
  unfolding rules_of
  line_at_lem long fields block x =
      ap (λ (ls : List Line). get_or ls (j * intervals_of d + i) x) (lines_are d s g long fields)
      ∙ block_line (rules_of Stored d (read_all d)) x d.count j i (start_of d (read_all d)) s block within
      ∙ ap (λ (p : Place). line_of (rules_of Stored d (read_all d)) (skipped Stored d (read_all d) s j) i p (interval_at d s j i)) (place_is d (read_all d) (small d) j i)
      ∙ line_is

  -- its state is the word for what judging says of the interval
  pub state_judged : (line_at d s j i).state ≡ cond (skipped Stored d (read_all d) s j) Skipped (worded (verdict_at Stored d (read_all d) s j i))
  unfolding line_at state_of
  state_judged = sym state_is ∙ by (skipped Stored d (read_all d) s j)
    where
      by : (b : Bool) → cond b Skipped (worded (judge_interval (rules_of Stored d (read_all d)) (place_at d (read_all d) j i) (interval_at d s j i)))
          ≡ cond b Skipped (worded (cond b answers.good (judge_interval (rules_of Stored d (read_all d)) (place_at d (read_all d) j i) (interval_at d s j i))))
      by true = refl
      by false = refl

  -- a line is in state `guard` or `ref` exactly where judging that interval finds a fault
  pub faulty_exactly : (verdict_at Stored d (read_all d) s j i ≡ answers.good) ↔ (faulty (line_at d s j i).state ≡ 0)
  faulty_exactly = rw state_judged (by (skipped Stored d (read_all d) s j))
    where
      by : (b : Bool) → (cond b answers.good (judge_interval (rules_of Stored d (read_all d)) (place_at d (read_all d) j i) (interval_at d s j i)) ≡ answers.good)
          ↔ (faulty (cond b Skipped (worded (cond b answers.good (judge_interval (rules_of Stored d (read_all d)) (place_at d (read_all d) j i) (interval_at d s j i))))) ≡ 0)
      by true = (λ e. refl, λ e. refl)
      by false = fault_interval (rules_of Stored d (read_all d)) (read_plain d) (place_at d (read_all d) j i) (interval_at d s j i)

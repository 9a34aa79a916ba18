-- The laws of a record: its frame as a test and as facts, and which refusal comes first.
-- Assumes nothing.
use mathlib.Core.Path.{◌≡◌, refl, sym, ap, ◌∙◌}
use mathlib.Core.Bool.{Bool, true, false, not}
use mathlib.Core.List.{List}
use Prim.Native.Nat.{ℕ, ◌+◌, ◌-◌, ◌≤◌}
use borrow.Author.Tests.{le-ltb, eq-eqb, ltb-false, eqb-true, not-false}
use lib.Dec.{eqb, ltb}
use lib.ListN.{length, get_or, length-drop}
use Rattle.words.specs.BigEndian.{number_at}
use Rattle.words.proofs.Choice.{or_none}
use Rattle.answer.specs.Answer.{Answer, good, is_good, refused_if}
use Rattle.answer.specs.declared.Reason.TheVariants as reasons
use Rattle.answer.proofs.Ladder.{both_good, not_refused}
use Rattle.segment.specs.Segment.{described, IsSegment, length_of}
use Rattle.segment.proofs.Rules.{rules_segment}
use Rattle.records.specs.Record.{frame_bad, Framed, described_by, segment_in, record_answer}

-- ---- the frame
pub frame_facts : (input : List ℕ) → frame_bad input ≡ false → Framed input
unfolding frame_bad
frame_facts input e =
    let start = (or_none (ltb (length input) 4) _).0 e in
    let most = (or_none (ltb 65532 (number_at 0 4 input)) _).0 start.1 in
    let least = (or_none (ltb (number_at 0 4 input) 15) _).0 most.1 in
    let whole = (or_none (not (eqb (length input) (4 + number_at 0 4 input))) _).0 least.1 in
    record {
      start = ltb-false _ _ start.0;
      most = ltb-false _ _ most.0;
      least = ltb-false _ _ least.0;
      whole = eqb-true _ _ (not-false _ whole.0);
      version = eqb-true _ _ (not-false _ whole.1);
    }

-- where all else is in order, the version alone is left to ask
pub frame_version : (input : List ℕ) → 4 ≤ length input → number_at 0 4 input ≤ 65532 → 15 ≤ number_at 0 4 input → length input ≡ 4 + number_at 0 4 input
    → not (eqb (get_or input 4 0) 1) ≡ frame_bad input
unfolding frame_bad
frame_version input start most least whole =
    rw (
      le-ltb (length input) 4 start,
      le-ltb 65532 (number_at 0 4 input) most,
      le-ltb (number_at 0 4 input) 15 least,
      eq-eqb (length input) (4 + number_at 0 4 input) whole,
    )
    refl

pub frame_bad_lem : (input : List ℕ) → (Framed input → ⊥) → true ≡ frame_bad input
frame_bad_lem input n = by (frame_bad input) refl
  where
    by : (b : Bool) → frame_bad input ≡ b → true ≡ b
    by true e = refl
    by false e = absurd (n (frame_facts input e))

-- the rule that asks for the frame did not refuse
pub framed : (input : List ℕ) {b : Bool} {a : Answer} → b ≡ frame_bad input → a ≡ refused_if b reasons.ListingRecordBad → a ≡ good → Framed input
framed input {b} e r g = frame_facts input (sym e ∙ not_refused b reasons.ListingRecordBad (ap is_good (sym r ∙ g)))

pub segment_length : (input : List ℕ) → length (segment_in input) ≡ length input - 19
unfolding segment_in
segment_length input = length-drop 19 input

-- ---- what a record that is not refused is
pub record Whole (input : List ℕ) : Type 0 where
  pub frame : Framed input
  pub segment : IsSegment (described_by input)
  pub length : length (segment_in input) ≡ length_of (described_by input)

pub record_whole : (input : List ℕ) → is_good (record_answer input) ≡ true → Whole input
unfolding record_answer
record_whole input e =
    let two = both_good (refused_if (frame_bad input) reasons.ListingRecordBad) _ e in
    let fit = rules_segment (described_by input) (length (segment_in input)) two.1 in
    record { frame = frame_facts input (not_refused _ _ two.0); segment = fit.0; length = fit.1 }

-- ---- the description, field by field
pub described_made : (input : List ℕ) {b w n : ℕ} → b ≡ number_at 7 2 input → w ≡ number_at 9 8 input → n ≡ number_at 17 2 input
    → described (get_or input 5 0) b (get_or input 6 0) w n 0 ≡ described_by input
unfolding described_by
described_made input eb ew en = rw (eb, ew, en)

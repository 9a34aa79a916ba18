-- What the rules that every call begins with tell.
-- Assumes nothing.
use mathlib.Core.Path.{◌≡◌, sym, ap}
use mathlib.Core.Bool.{Bool, true, not}
use Prim.Native.Nat.{ℕ}
use borrow.Author.Tests.{eq-eqb, eqb-true, not-false}
use lib.Dec.{eqb}
use Rattle.answer.specs.Answer.{Answer, good, is_good, refused_if}
use Rattle.answer.specs.declared.Reason.TheVariants as reasons
use Rattle.answer.proofs.Ladder.{both_good, not_refused}
use Rattle.segment.specs.declared.Description.{Description}
use Rattle.segment.specs.Segment.{is_segment, IsSegment, length_of}
use Rattle.segment.specs.Rules.{description_rule, length_rule, segment_rules}
use Rattle.segment.proofs.Laws.{segment_facts, is_segment_lem}

module _ (d : Description) where
  pub rule_described : is_good (description_rule d) ≡ true → IsSegment d
  unfolding description_rule
  rule_described e = segment_facts d (rw (not-false (is_segment d) (not_refused _ _ e)) tt)

  pub description_told : (b : Bool) (a : Answer) → a ≡ refused_if (not b) reasons.DescriptionBad → b ≡ is_segment d → a ≡ description_rule d
  unfolding description_rule
  description_told b a e t = rw t at e

  pub described_rule : IsSegment d → description_rule d ≡ good
  unfolding description_rule
  described_rule s = rw (is_segment_lem d s)

  module _ (n : ℕ) where
    pub length_told : (m : ℕ) (a : Answer) → a ≡ refused_if (not (eqb n m)) reasons.SegmentLengthWrong → m ≡ length_of d → a ≡ length_rule d n
    unfolding length_rule
    length_told m a e l = rw l at e

    pub length_right : description_rule d ≡ good → n ≡ length_of d → segment_rules d n ≡ good
    unfolding segment_rules length_rule
    length_right g e = rw (g, eq-eqb n (length_of d) e)

    pub rules_segment : is_good (segment_rules d n) ≡ true → IsSegment d × (n ≡ length_of d)
    unfolding segment_rules length_rule
    rules_segment e =
        let two = both_good (description_rule d) _ e in
        (rule_described two.0, eqb-true n (length_of d) (not-false _ (not_refused _ _ two.1)))

-- what is known of numbers that the rules have passed
module _ (d : Description) where
  pub described : good ≡ description_rule d → IsSegment d
  described e = rule_described d (ap is_good (sym e))

  pub fitting : (n : ℕ) → good ≡ segment_rules d n → IsSegment d × (n ≡ length_of d)
  fitting n e = rules_segment d n (ap is_good (sym e))

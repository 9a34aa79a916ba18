-- `segment::Segment::range_rule`: what ends past the segment does not end at its end or before it.
use mathlib.Core.Path.{◌≡◌, refl, ◌∙◌}
use mathlib.Core.Bool.{Bool, true, false, not}
use Prim.Native.Nat.{ℕ, ◌+◌, ◌≤◌, ◌<◌}
use lib.Dec.{leb, ltb}
use borrow.Author.Tests.{le-ltb, lt-ltb, leb-true, leb-false}
use Rattle.answer.specs.Answer.{Answer, refused_if}
use Rattle.answer.specs.declared.Reason.TheVariants as reasons
use Rattle.segment.specs.declared.Description.{Description}
use Rattle.segment.specs.Places.{range_rule}
use Rattle.segment.proofs.Segment.range_rule.Goals as goal
use Rattle.segment.proofs.Segment.range_rule.Goals.{then-address-d, else-address-d}

past : (m n : ℕ) → not (leb m n) ≡ ltb n m
past m n = by (leb m n) refl
  where
    by : (b : Bool) → leb m n ≡ b → not b ≡ ltb n m
    by true e = rw (le-ltb n m (leb-true m n e)) refl
    by false e = rw (lt-ltb n m (leb-false m n e)) refl

first : (d : Description) (address count : ℕ) (outside : Bool) (a : Answer) → address < d.first
    → outside ≡ ltb address d.first → a ≡ refused_if outside reasons.AddressOutOfRange → a ≡ range_rule d address count
unfolding range_rule
first d address count outside a h e₁ e₂ = e₂ ∙ rw (e₁, lt-ltb address d.first h) refl

then : (d : Description) (address count : ℕ) (ends outside : Bool) (a : Answer) → d.first ≤ address → ends ≡ leb (address + count) (d.first + d.count)
    → outside ≡ not ends → a ≡ refused_if outside reasons.AddressOutOfRange → a ≡ range_rule d address count
unfolding range_rule
then d address count ends outside a h e₁ e₂ e₃ = e₃ ∙ rw (e₂, e₁, past (address + count) (d.first + d.count), le-ltb address d.first h) refl

pub returns : goal.returns
returns c =
    elim c.if-address-d.branch [
      | then-address-d w ↦ first _ _ _ _ _ w.if-address-d.true w.outside-is c.refused_if.ensures
      | else-address-d w ↦ then _ _ _ _ _ _ w.if-address-d.false w.ends.ensures w.outside-is c.refused_if.ensures
    ]

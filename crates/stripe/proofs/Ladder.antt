-- The order of refusals: 1 where the numbers describe no segment, then 11 where a test of the shape fails.
-- Assumes nothing.
use mathlib.Core.Path.{◌≡◌, refl, sym, ap, ◌∙◌}
use mathlib.Core.Bool.{Bool, true, false, not, ◌&&◌, cond, true≢false}
use Prim.Native.Nat.{ℕ, ◌*◌, ◌≤◌}
use native.Mathlib.Nat.{mul-le-mul}
use borrow.Author.Tests.{not-false}
use lib.Dec.{T, T_not, not_T, eqb, leb, leb→le, le→leb, eqb→eq}
use Rattle.words.proofs.Choice.{and_true, and_left, and_right, same}
use Rattle.std.specs.Prelude.{Err}
use Rattle.answer.specs.Answer.{Answer, good, refused, is_good, refused_if}
use Rattle.answer.specs.Outcome.{outcome, leaving}
use Rattle.answer.specs.declared.Reason.TheVariants as reasons
use Rattle.answer.specs.declared.Refusal.{Refusal}
use Rattle.answer.proofs.Ladder.{both_good, not_refused, met, unmet}
use Rattle.answer.proofs.Outcome.{refuses_with}
use Rattle.segment.specs.declared.Description.{Description}
use Rattle.segment.specs.Segment.{IsSegment, length_of}
use Rattle.segment.specs.Rules.{description_rule}
use Rattle.segment.proofs.Laws.{length_most}
use Rattle.segment.proofs.Rules.{rule_described, described_rule}
use Rattle.stripe.specs.Stripe.{stripe_rules, in_range}

-- up to seventeen parts have a length that a number of 64 bits holds
pub all_most : (d : Description) (k long : ℕ) → IsSegment d → long ≡ length_of d → k ≤ 17 → k * long ≤ 17 * (65536 * 4160)
all_most d k long s e h = rw e (mul-le-mul h (length_most d s))

pub range_facts : (k : ℕ) → T (in_range k) → (1 ≤ k) × (k ≤ 16)
unfolding in_range
range_facts k t = (leb→le 1 k (and_left (leb 1 k) _ t), leb→le k 16 (and_right (leb 1 k) _ t))

pub lost_facts : (k lost : ℕ) → T (in_range k && leb lost k) → (1 ≤ k) × (k ≤ 16) × (lost ≤ k)
lost_facts k lost t =
    let range = range_facts k (and_left (in_range k) (leb lost k) t) in
    (range.0, range.1, leb→le lost k (and_right (in_range k) (leb lost k) t))

pub range_true : (k : ℕ) → 1 ≤ k → k ≤ 16 → T (in_range k)
unfolding in_range
range_true k l h = and_true (leb 1 k) (leb k 16) (le→leb 1 k l) (le→leb k 16 h)

-- what is as long as k parts, and what is as long as one
pub parts_long : (k : ℕ) {n long one : ℕ} → n ≡ k * long → one ≡ long → k * one ≡ n
parts_long k e h = ap (λ (l : ℕ). k * l) h ∙ sym e

-- ---- the rules
module _ (d : Description) (shaped : Bool) where
  right : T (not (eqb d.kind 0) && shaped) → (d.kind ≡ 0 → ⊥) × T shaped
  right t = (
    λ z. T_not (eqb d.kind 0) (and_left (not (eqb d.kind 0)) shaped t) (same d.kind 0 z),
    and_right (not (eqb d.kind 0)) shaped t,
  )

  pub rules_good : IsSegment d → (d.kind ≡ 0 → ⊥) → T shaped → stripe_rules d shaped ≡ good
  unfolding stripe_rules
  rules_good s k t =
      rw (described_rule d s)
      (met (not (eqb d.kind 0) && shaped) _ (and_true (not (eqb d.kind 0)) shaped (not_T (eqb d.kind 0) (λ z. k (eqb→eq d.kind 0 z))) t))

  pub rules_bad : IsSegment d → ((d.kind ≡ 0 → ⊥) → T shaped → ⊥) → stripe_rules d shaped ≡ refused reasons.StripeShapeBad
  unfolding stripe_rules
  rules_bad s h = rw (described_rule d s) (unmet (not (eqb d.kind 0) && shaped) _ (λ t. h (right t).0 (right t).1))

  pub rules_facts : is_good (stripe_rules d shaped) ≡ true → IsSegment d × ((d.kind ≡ 0 → ⊥) × T shaped)
  unfolding stripe_rules
  rules_facts g =
      let two = both_good (description_rule d) _ g in
      (rule_described d two.0, right (rw (not-false (not (eqb d.kind 0) && shaped) (not_refused _ _ two.1)) tt))

-- where a part of the shape is refused, so is the whole
refused_more : (g plain shaped rest : Bool) (a : Answer) → is_good (cond g (refused_if (not (not plain && shaped)) reasons.StripeShapeBad) a) ≡ false
    → cond g (refused_if (not (not plain && shaped)) reasons.StripeShapeBad) a ≡ cond g (refused_if (not (not plain && (shaped && rest))) reasons.StripeShapeBad) a
refused_more false plain shaped rest a w = refl
refused_more true true shaped rest a w = refl
refused_more true false false rest a w = refl
refused_more true false true rest a w = absurd (true≢false w)

rules_more : (d : Description) (shaped rest : Bool) → is_good (stripe_rules d shaped) ≡ false → stripe_rules d shaped ≡ stripe_rules d (shaped && rest)
unfolding stripe_rules
rules_more d shaped rest w = refused_more (is_good (description_rule d)) (eqb d.kind 0) shaped rest (description_rule d) w

-- what is known where the rules pass, and what a call leaves where they do not
module _ (d : Description) (shaped : Bool) where
  pub passed : good ≡ stripe_rules d shaped → IsSegment d × ((d.kind ≡ 0 → ⊥) × T shaped)
  passed e = rules_facts d shaped (ap is_good (sym e))

  pub stopped : {L : Type 0} (rest : Bool) (old new : L) (e : Refusal) → Err e ≡ stripe_rules d shaped → outcome (Err e) old ≡ leaving (stripe_rules d (shaped && rest)) old new
  stopped rest old new e h = refuses_with _ old new e (h ∙ rules_more d shaped rest (ap is_good (sym h)))

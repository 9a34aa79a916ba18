-- `stripe::rebuild`: the rules with both numbers first; then the lengths.
use mathlib.Core.Path.{◌≡◌, sym, ap, ◌∙◌}
use mathlib.Core.Bool.{Bool, true, false, ◌&&◌}
use mathlib.Core.Logic.{◌⊎◌, inl, inr}
use Prim.Native.Nat.{ℕ, ◌+◌}
use lib.Dec.{leb}
use native.Mathlib.Omega.{arith}
use Rattle.std.proofs.lemmas.Result.{err_from_is_err_and}
use Rattle.segment.specs.Segment.{length_of}
use Rattle.stripe.specs.Stripe.{stripe_rules, in_range}
use Rattle.stripe.proofs.Ladder.{all_most, parts_long, lost_facts, passed}
use Rattle.stripe.proofs.Fits.{rebuild_stopped, rebuild_unfit, rebuild_good}
use Rattle.stripe.proofs.rebuild.Goals as goal
use Rattle.stripe.proofs.rebuild.Goals.{then-in_range, else-in_range, then-parts-count-via-then-parts-count, then-parts-count-via-else-parts-count+then-out-long}

-- the second test is made where the first is true
both : (k lost : ℕ) (range shaped : Bool) → range ≡ in_range k → (range ≡ true) × (shaped ≡ leb lost k) ⊎ (range ≡ false) × (shaped ≡ range) → shaped ≡ (in_range k && leb lost k)
both k lost range shaped e (inl w) = rw (← e, w.0) w.1
both k lost range shaped e (inr w) = rw (← e, w.0) (w.1 ∙ w.0)

pub returns-in_err-s : goal.returns-in_err-s
returns-in_err-s c =
    let p = err_from_is_err_and c.from_residual.result c.from_residual.ensures.1 in
    rw (p.1, p.2) (rebuild_stopped _ _ _ _ _ _ (c.in_err-s.ensures.answer ∙ ap (stripe_rules c.args.d) (both c.args.k c.args.lost _ _ c.in_range.ensures (elim c.if-in_range.branch [ then-in_range w ↦ inl (w.if-in_range.true, w.shaped-is) | else-in_range w ↦ inr (w.if-in_range.false, w.shaped-is) ]))))

pub overflow_mul-count : goal.overflow_mul-count
overflow_mul-count c =
    let p = passed _ _ (c.in_ok-s.ensures.answer ∙ ap (stripe_rules c.args.d) (both c.args.k c.args.lost _ _ c.in_range.ensures (elim c.if-in_range.branch [ then-in_range w ↦ inl (w.if-in_range.true, w.shaped-is) | else-in_range w ↦ inr (w.if-in_range.false, w.shaped-is) ]))) in
    let few = (lost_facts c.args.k c.args.lost p.1.1).1 in
    omega (arith, all_most _ (c.args.k + 1) _ p.0 (c.length-long.ensures ∙ ap length_of c.in_ok-s.ensures.numbers) (omega (arith, few)))

pub overflow_add-count : goal.overflow_add-count
overflow_add-count c =
    let p = passed _ _ (c.in_ok-s.ensures.answer ∙ ap (stripe_rules c.args.d) (both c.args.k c.args.lost _ _ c.in_range.ensures (elim c.if-in_range.branch [ then-in_range w ↦ inl (w.if-in_range.true, w.shaped-is) | else-in_range w ↦ inr (w.if-in_range.false, w.shaped-is) ]))) in
    omega (arith, (lost_facts c.args.k c.args.lost p.1.1).1)

pub returns-then-parts-count : goal.returns-then-parts-count
returns-then-parts-count c =
    rebuild_unfit _ _ _ _ _ _ (c.length-long.ensures ∙ ap length_of c.in_ok-s.ensures.numbers) (c.in_ok-s.ensures.answer ∙ ap (stripe_rules c.args.d) (both c.args.k c.args.lost _ _ c.in_range.ensures (elim c.if-in_range.branch [ then-in_range w ↦ inl (w.if-in_range.true, w.shaped-is) | else-in_range w ↦ inr (w.if-in_range.false, w.shaped-is) ])))
    (λ whole room. elim c.then-parts-count.branch [
      | then-parts-count-via-then-parts-count w ↦ w.if-parts-count.true whole
      | then-parts-count-via-else-parts-count+then-out-long w ↦ w.if-out-long.true room
    ])

pub rebuild-requires : goal.rebuild-requires
rebuild-requires c =
    let p = passed _ _ (c.in_ok-s.ensures.answer ∙ ap (stripe_rules c.args.d) (both c.args.k c.args.lost _ _ c.in_range.ensures (elim c.if-in_range.branch [ then-in_range w ↦ inl (w.if-in_range.true, w.shaped-is) | else-in_range w ↦ inr (w.if-in_range.false, w.shaped-is) ]))) in
    ((lost_facts c.args.k c.args.lost p.1.1).2, sym (parts_long _ c.if-parts-count.false c.if-out-long.false))

pub returns : goal.returns
returns c =
    rebuild_good _ _ _ _ _ _ (c.length-long.ensures ∙ ap length_of c.in_ok-s.ensures.numbers) (c.in_ok-s.ensures.answer ∙ ap (stripe_rules c.args.d) (both c.args.k c.args.lost _ _ c.in_range.ensures (elim c.if-in_range.branch [ then-in_range w ↦ inl (w.if-in_range.true, w.shaped-is) | else-in_range w ↦ inr (w.if-in_range.false, w.shaped-is) ]))) c.if-parts-count.false c.if-out-long.false _ c.rebuild.ensures

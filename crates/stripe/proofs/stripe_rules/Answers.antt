-- `stripe::stripe_rules`: the description first, then the type and the shape.
use mathlib.Core.Path.{◌≡◌, sym}
use mathlib.Core.Bool.{Bool, false}
use lib.Dec.{T}
use Rattle.std.proofs.lemmas.Result.{err_from_is_err_and}
use Rattle.answer.proofs.Ladder.{hands_on}
use Rattle.segment.proofs.Rules.{described}
use Rattle.stripe.specs.Stripe.{stripe_rules}
use Rattle.stripe.proofs.Ladder.{rules_good, rules_bad}
use Rattle.stripe.proofs.stripe_rules.Goals as goal
use Rattle.stripe.proofs.stripe_rules.Goals.{then-d-eq0-via-then-d-eq0, then-d-eq0-via-else-d-eq0+then-not-shaped}

untrue : (b : Bool) → b ≡ false → T b → ⊥
untrue b e t = rw e at t

pub returns-in_err-s-clause-answer : goal.returns-in_err-s-clause-answer
unfolding stripe_rules
returns-in_err-s-clause-answer c =
    let p = err_from_is_err_and c.from_residual.result c.from_residual.ensures.1 in
    rw (p.1, p.2) (hands_on _ _ _ c.in_err-s.ensures.answer)

pub returns-then-d-eq0-clause-answer : goal.returns-then-d-eq0-clause-answer
returns-then-d-eq0-clause-answer c =
    sym
    (rules_bad _ _ (described _ c.in_ok-s.ensures.answer)
    (λ typed shaped. elim c.then-d-eq0.branch [
      | then-d-eq0-via-then-d-eq0 w ↦ typed w.if-d-eq0.true
      | then-d-eq0-via-else-d-eq0+then-not-shaped w ↦ untrue _ w.if-not-shaped.true shaped
    ]))

pub returns-clause-answer : goal.returns-clause-answer
returns-clause-answer c = sym (rules_good _ _ (described _ c.in_ok-s.ensures.answer) c.if-d-eq0.false (rw c.if-not-shaped.false tt))

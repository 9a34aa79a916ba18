-- `stripe::make`: the rules first; then the lengths.
use mathlib.Core.Path.{ap, ◌∙◌}
use native.Mathlib.Omega.{arith}
use Rattle.std.proofs.lemmas.Result.{err_from_is_err_and}
use Rattle.segment.specs.Segment.{length_of}
use Rattle.stripe.specs.Stripe.{stripe_rules}
use Rattle.stripe.proofs.Ladder.{all_most, range_facts, passed}
use Rattle.stripe.proofs.Fits.{make_stopped, make_unfit, make_good}
use Rattle.stripe.proofs.make.Goals as goal
use Rattle.stripe.proofs.make.Goals.{then-members-count-via-then-members-count, then-members-count-via-else-members-count+then-out-long}

pub returns-in_err-s : goal.returns-in_err-s
returns-in_err-s c =
    let p = err_from_is_err_and c.from_residual.result c.from_residual.ensures.1 in
    rw (p.1, p.2) (make_stopped _ _ _ _ _ (c.in_err-s.ensures.answer ∙ ap (stripe_rules c.args.d) c.in_range.ensures))

pub overflow_mul-count : goal.overflow_mul-count
overflow_mul-count c =
    let p = passed _ _ (c.in_ok-s.ensures.answer ∙ ap (stripe_rules c.args.d) c.in_range.ensures) in
    let few = (range_facts c.args.k p.1.1).1 in
    omega (arith, all_most _ c.args.k _ p.0 (c.length-long.ensures ∙ ap length_of c.in_ok-s.ensures.numbers) (omega (arith, few)))

pub returns-then-members-count : goal.returns-then-members-count
returns-then-members-count c =
    make_unfit _ _ _ _ _ (c.length-long.ensures ∙ ap length_of c.in_ok-s.ensures.numbers) (c.in_ok-s.ensures.answer ∙ ap (stripe_rules c.args.d) c.in_range.ensures)
    (λ whole room. elim c.then-members-count.branch [
      | then-members-count-via-then-members-count w ↦ w.if-members-count.true whole
      | then-members-count-via-else-members-count+then-out-long w ↦ w.if-out-long.true room
    ])

pub returns : goal.returns
returns c =
    make_good _ _ _ _ _ (c.length-long.ensures ∙ ap length_of c.in_ok-s.ensures.numbers) (c.in_ok-s.ensures.answer ∙ ap (stripe_rules c.args.d) c.in_range.ensures) c.if-members-count.false c.if-out-long.false _ c.join.ensures

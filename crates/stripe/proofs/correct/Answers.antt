-- `stripe::correct`: the rules first; then the lengths.
use mathlib.Core.Path.{ap, ◌∙◌}
use Rattle.std.proofs.lemmas.Result.{err_from_is_err_and}
use Rattle.segment.specs.Segment.{length_of}
use Rattle.stripe.proofs.Fits.{correct_stopped, correct_unfit, correct_good}
use Rattle.stripe.proofs.correct.Goals as goal
use Rattle.stripe.proofs.correct.Goals.{then-old-long-via-then-old-long, then-old-long-via-else-old-long+then-new-long, then-old-long-via-else-old-long+else-new-long+then-parity-long}

pub returns-in_err-s : goal.returns-in_err-s
returns-in_err-s c =
    let p = err_from_is_err_and c.from_residual.result c.from_residual.ensures.1 in
    rw (p.1, p.2) (correct_stopped _ _ _ _ _ c.in_err-s.ensures.answer)

pub returns-then-old-long : goal.returns-then-old-long
returns-then-old-long c =
    correct_unfit _ _ _ _ _ (c.length-long.ensures ∙ ap length_of c.in_ok-s.ensures.numbers) c.in_ok-s.ensures.answer
    (λ old new room. elim c.then-old-long.branch [
      | then-old-long-via-then-old-long w ↦ w.if-old-long.true old
      | then-old-long-via-else-old-long+then-new-long w ↦ w.if-new-long.true new
      | then-old-long-via-else-old-long+else-new-long+then-parity-long w ↦ w.if-parity-long.true room
    ])

pub returns : goal.returns
returns c =
    correct_good _ _ _ _ _ (c.length-long.ensures ∙ ap length_of c.in_ok-s.ensures.numbers) c.in_ok-s.ensures.answer c.if-old-long.false c.if-new-long.false c.if-parity-long.false _ c.xor_two.ensures

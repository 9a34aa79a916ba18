-- `transfer::Transfer::judge`: what is sent first, and where that is good what is stored.
use mathlib.Core.Path.{sym, ◌∙◌}
use Rattle.std.proofs.lemmas.Result.{err_from_is_err_and}
use Rattle.answer.proofs.Ladder.{hands_on, goes_past}
use Rattle.transfer.specs.Transfer.{judged}
use Rattle.transfer.proofs.Transfer.judge.Goals as goal

pub returns-in_err-judge_on : goal.returns-in_err-judge_on
unfolding judged
returns-in_err-judge_on c =
    let p = err_from_is_err_and c.from_residual.result c.from_residual.ensures.1 in
    rw (p.1, p.2) (hands_on _ _ _ c.in_err-judge_on.ensures)

pub returns : goal.returns
unfolding judged
returns c = c.judge_on-2.ensures ∙ sym (goes_past _ _ c.in_ok-judge_on.ensures)

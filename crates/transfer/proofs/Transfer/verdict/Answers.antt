-- `transfer::Transfer::verdict`: what is judged first, and where that is good what is compared.
use mathlib.Core.Path.{sym, ◌∙◌}
use Rattle.std.proofs.lemmas.Result.{err_from_is_err_and}
use Rattle.answer.proofs.Ladder.{hands_on, goes_past}
use Rattle.transfer.specs.Transfer.{verdict}
use Rattle.transfer.proofs.Transfer.verdict.Goals as goal

pub returns-in_err-judge : goal.returns-in_err-judge
unfolding verdict
returns-in_err-judge c =
    let p = err_from_is_err_and c.from_residual.result c.from_residual.ensures.1 in
    rw (p.1, p.2) (hands_on _ _ _ c.in_err-judge.ensures)

pub returns : goal.returns
unfolding verdict
returns c = c.compare.ensures ∙ sym (goes_past _ _ c.in_ok-judge.ensures)

-- `execute::execute`: what admission refuses is refused; what it lets go on is performed.
use Rattle.std.proofs.lemmas.Result.{err_from_is_err_and}
use Rattle.execute.proofs.Outcomes.{refused_outcome, went_outcome}
use Rattle.execute.proofs.execute.Goals as goal

pub returns-in_err-a : goal.returns-in_err-a
returns-in_err-a c =
    let p = err_from_is_err_and c.from_residual.result c.from_residual.ensures.1 in
    rw (p.1, p.2) (refused_outcome _ _ _ _ c.in_err-a.ensures)

pub perform-requires : goal.perform-requires
perform-requires c = c.in_ok-a.ensures.2

pub returns : goal.returns
returns c = went_outcome _ _ _ _ _ _ c.in_ok-a.ensures.0 (rw c.in_ok-a.ensures.1 at c.perform.ensures)

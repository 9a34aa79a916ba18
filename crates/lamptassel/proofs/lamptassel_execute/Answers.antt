-- `lamptassel::lamptassel_execute`: the numbers of `execute::execute`'s answer.
use Rattle.lamptassel.proofs.Laws.{executed_told}
use Rattle.lamptassel.proofs.lamptassel_execute.Goals as goal

pub returns : goal.returns
returns c =
    executed_told _ _ _ _ _ _ _ _ _ c.described-d.ensures c.execute-a.ensures c.number.ensures c.address.ensures c.place.ensures

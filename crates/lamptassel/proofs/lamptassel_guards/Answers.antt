-- `lamptassel::lamptassel_guards`: the number of `guards::guards`' answer.
use Rattle.lamptassel.proofs.Laws.{told}
use Rattle.lamptassel.proofs.lamptassel_guards.Goals as goal

pub returns : goal.returns
returns c = told _ _ _ _ c.guards.ensures c.number.ensures

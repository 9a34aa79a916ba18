-- `lamptassel::lamptassel_correct`: the number of `stripe::correct`'s answer.
use Rattle.lamptassel.proofs.Laws.{correct_told}
use Rattle.lamptassel.proofs.lamptassel_correct.Goals as goal

pub returns : goal.returns
returns c = correct_told _ _ _ _ _ _ _ _ c.described-d.ensures c.correct.ensures c.number.ensures

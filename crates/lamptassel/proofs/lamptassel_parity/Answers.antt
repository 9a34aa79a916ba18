-- `lamptassel::lamptassel_parity`: the number of `stripe::make`'s answer.
use Rattle.lamptassel.proofs.Laws.{parity_told}
use Rattle.lamptassel.proofs.lamptassel_parity.Goals as goal

pub returns : goal.returns
returns c = parity_told _ _ _ _ _ _ _ _ c.described-d.ensures c.make.ensures c.number.ensures

-- `lamptassel::lamptassel_fill`: the number of `filling::fill`'s answer.
use Rattle.lamptassel.proofs.Laws.{fill_told}
use Rattle.lamptassel.proofs.lamptassel_fill.Goals as goal

pub returns : goal.returns
returns c = fill_told _ _ _ _ _ _ c.described-d.ensures c.fill.ensures c.number.ensures

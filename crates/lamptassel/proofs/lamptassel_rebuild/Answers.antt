-- `lamptassel::lamptassel_rebuild`: the number of `stripe::rebuild`'s answer.
use Rattle.lamptassel.proofs.Laws.{rebuild_told}
use Rattle.lamptassel.proofs.lamptassel_rebuild.Goals as goal

pub returns : goal.returns
returns c = rebuild_told _ _ _ _ _ _ _ _ _ c.described-d.ensures c.rebuild.ensures c.number.ensures

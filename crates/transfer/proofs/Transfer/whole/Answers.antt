-- `transfer::Transfer::whole`: the type or the code decides.
use borrow.Author.Tests.{ne_eqb}
use Rattle.transfer.specs.Transfer.{whole}
use Rattle.transfer.proofs.Transfer.whole.Goals as goal

pub returns-then-self-eq0 : goal.returns-then-self-eq0
unfolding whole
returns-then-self-eq0 c = rw c.if-self-eq0.true

pub returns-else-self-eq0 : goal.returns-else-self-eq0
unfolding whole
returns-else-self-eq0 c = rw (ne_eqb _ 0 c.if-self-eq0.false)

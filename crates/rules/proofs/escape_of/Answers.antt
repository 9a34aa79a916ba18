-- `rules::escape_of`: the side decides, and on the stored one the type.
use borrow.Author.Tests.{ne_eqb}
use Rattle.rules.proofs.escape_of.Goals as goal

pub returns-then-kind-eq3 : goal.returns-then-kind-eq3
returns-then-kind-eq3 c = rw (c.in-Stored.is, c.if-kind-eq3.true)

pub returns-else-kind-eq3 : goal.returns-else-kind-eq3
returns-else-kind-eq3 c = rw (c.in-Stored.is, ne_eqb _ 3 c.if-kind-eq3.false)

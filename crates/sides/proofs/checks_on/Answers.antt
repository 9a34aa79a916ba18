-- `sides::checks_on`: side and operation decide.
use mathlib.Core.Path.{ap, ◌∙◌}
use mathlib.Core.Bool.{not}
use Rattle.sides.proofs.checks_on.Goals as goal

pub returns-in-Write : goal.returns-in-Write
returns-in-Write c = rw (c.in-Sent.is, c.in-Write.is)

pub returns-in-Verify : goal.returns-in-Verify
returns-in-Verify c = c.checks_as_write.ensures ∙ rw (c.in-Sent.is, c.in-Verify.is)

pub returns-in-Verify-o : goal.returns-in-Verify-o
returns-in-Verify-o c = ap not c.checks_as_write-in-Verify-o.ensures ∙ rw (c.in-Stored.is, c.in-Verify-o.is)

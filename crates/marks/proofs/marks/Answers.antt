-- `marks::marks`: field by field.
use borrow.Author.Tests.{ne_eqb}
use Rattle.marks.proofs.Laws.{marks_are}
use Rattle.marks.proofs.marks.Goals as goal

pub returns-then-d-eq3 : goal.returns-then-d-eq3
returns-then-d-eq3 c = marks_are _ _ _ _ 0 c.inserted_application.ensures c.inserted_reference.ensures (rw c.if-d-eq3.true)

pub returns-else-d-eq3 : goal.returns-else-d-eq3
returns-else-d-eq3 c = marks_are _ _ _ _ 1 c.inserted_application.ensures c.inserted_reference.ensures (rw (ne_eqb _ 3 c.if-d-eq3.false))

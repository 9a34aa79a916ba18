-- `marks::inserted_application`: ATO and the size of the command decide.
use mathlib.Core.Path.{sym}
use Rattle.marks.proofs.Laws.{application_off, application_tag, application_none}
use Rattle.marks.proofs.inserted_application.Goals as goal

pub returns-then-d-eq0 : goal.returns-then-d-eq0
returns-then-d-eq0 c = sym (application_off _ _ c.if-d-eq0.true)

pub returns-then-c : goal.returns-then-c
returns-then-c c = sym (application_tag _ c.args.c c.if-d-eq0.false c.if-c.true)

pub returns-else-c : goal.returns-else-c
returns-else-c c = sym (application_none _ c.args.c c.if-d-eq0.false c.if-c.false)

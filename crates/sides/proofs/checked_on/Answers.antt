-- `sides::checked_on`: type 0 checks nothing, else the side decides.
use mathlib.Core.Path.{sym, ◌∙◌}
use Rattle.sides.proofs.Laws.{checked_plain, checked_all, checked_none}
use Rattle.sides.proofs.checked_on.Goals as goal

pub returns-then-d-eq0 : goal.returns-then-d-eq0
returns-then-d-eq0 c = sym (checked_plain _ _ _ c.if-d-eq0.true)

pub returns-then-checks_on : goal.returns-then-checks_on
returns-then-checks_on c = sym (checked_all _ _ _ c.if-d-eq0.false (sym c.checks_on.ensures ∙ c.if-checks_on.true))

pub returns : goal.returns
returns c = sym (checked_none _ _ _ (sym c.checks_on.ensures ∙ c.if-checks_on.false))

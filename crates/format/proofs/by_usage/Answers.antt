-- `format::by_usage`: the test decides.
use mathlib.Core.Path.{◌∙◌}
use borrow.Author.Tests.{ne_eqb}
use Rattle.format.proofs.by_usage.Goals as goal

pub returns : goal.returns
returns c = c.illegal.ensures ∙ rw (ne_eqb _ _ c.if-usage-wanted.false)

-- `rules::first_tag`: the type decides.
use mathlib.Core.Path.{sym, ◌∙◌}
use Rattle.rules.proofs.Laws.{tag_one, tag_other}
use Rattle.rules.proofs.first_tag.Goals as goal

pub returns-then-d-eq1 : goal.returns-then-d-eq1
returns-then-d-eq1 c = sym (tag_one _ _ c.if-d-eq1.true)

pub returns-else-d-eq1 : goal.returns-else-d-eq1
returns-else-d-eq1 c = c.tag.ensures ∙ sym (tag_other _ c.args.c c.if-d-eq1.false)

-- `rules::start`: field by field.
use Rattle.rules.proofs.Laws.{start_is}
use Rattle.rules.proofs.start.Goals as goal

pub returns : goal.returns
returns c = start_is _ _ _ c.first_tag.ensures

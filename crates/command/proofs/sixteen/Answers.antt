-- `command::sixteen`: field by field.
use Rattle.command.specs.Sixteen.{sixteen}
use borrow.Author.Rules.{rules}
use Rattle.command.proofs.sixteen.Goals as goal

pub returns : goal.returns
unfolding sixteen
returns c = search rules

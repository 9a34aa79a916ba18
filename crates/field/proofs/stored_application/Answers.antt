-- `field::stored_application`: the number at its place.
use Rattle.field.specs.Field.{stored_application}
use Rattle.field.proofs.stored_application.Goals as goal

pub returns : goal.returns
unfolding stored_application
returns c = c.read2.ensures

-- `field::stored_reference`: the number at its place.
use Rattle.field.specs.Field.{stored_reference}
use Rattle.field.proofs.stored_reference.Goals as goal

pub returns : goal.returns
unfolding stored_reference
returns c = c.read4.ensures

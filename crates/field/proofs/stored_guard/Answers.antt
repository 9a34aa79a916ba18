-- `field::stored_guard`: the number at its place.
use Rattle.field.specs.Field.{stored_guard}
use Rattle.field.proofs.stored_guard.Goals as goal

pub returns : goal.returns
unfolding stored_guard
returns c = c.read2.ensures

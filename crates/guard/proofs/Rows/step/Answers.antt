-- `guard::Rows::step`: each half byte chooses one of the sixteen numbers of its row.
use mathlib.Core.Path.{refl}
use Rattle.guard.specs.Rows.{rows_step}
use Rattle.guard.proofs.Rows.step.Goals as goal

pub returns : goal.returns
unfolding rows_step
returns c = refl

-- `interval::reference_wrong`: a checked tag is compared with that of the place, one that is not checked is not wrong.
use Rattle.std.proofs.Common.{rules}
use Rattle.interval.specs.Interval.{reference_wrong}
use Rattle.interval.proofs.PieceLaws.{checked}
use Rattle.interval.proofs.reference_wrong.Goals as goal

pub returns-then-r : goal.returns-then-r
unfolding reference_wrong
returns-then-r c = search checked

pub returns-else-r : goal.returns-else-r
unfolding reference_wrong
returns-else-r c = search rules

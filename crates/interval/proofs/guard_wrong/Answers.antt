-- `interval::guard_wrong`: a checked guard is compared with that of the data, one that is not checked is not wrong.
use Rattle.std.proofs.Common.{rules}
use Rattle.interval.specs.Interval.{guard_wrong}
use Rattle.interval.proofs.PieceLaws.{checked}
use Rattle.interval.proofs.guard_wrong.Goals as goal

pub returns-then-r : goal.returns-then-r
unfolding guard_wrong
returns-then-r c = search checked

pub returns-else-r : goal.returns-else-r
unfolding guard_wrong
returns-else-r c = search rules

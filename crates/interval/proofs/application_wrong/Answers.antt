-- `interval::application_wrong`: a checked tag is compared under the mask, one that is not checked is not wrong.
use Rattle.std.proofs.Common.{rules}
use mathlib.Core.Path.{ap}
use Prim.Native.Nat.{ℕ}
use lib.Bits.{bit_and}
use Rattle.interval.specs.Interval.{application_wrong}
use Rattle.interval.proofs.PieceLaws.{checked}
use Rattle.interval.proofs.application_wrong.Goals as goal

pub returns-then-r : goal.returns-then-r
unfolding application_wrong
returns-then-r c = search (checked, ap (λ (x : ℕ). bit_and x c.args.r.mask) c.stored_application.ensures)

pub returns-else-r : goal.returns-else-r
unfolding application_wrong
returns-else-r c = search rules

-- `segment::Segment::offset`: the blocks before it, whole.
use mathlib.Core.Path.{ap}
use Prim.Native.Nat.{ℕ, ◌*◌, ◌-◌}
use native.Mathlib.Omega.{arith}
use Rattle.segment.specs.Places.{offset_of}
use Rattle.segment.proofs.Places.{offset_few}
use Rattle.segment.proofs.Segment.offset.Goals as goal

pub overflow_mul-result : goal.overflow_mul-result
overflow_mul-result c = rw c.stored.ensures (omega (arith, offset_few c.args.self.numbers c.args.address c.args.self.is c.requires.1))

pub returns : goal.returns
unfolding offset_of
returns c = ap (λ (x : ℕ). (c.args.address - c.args.self.numbers.first) * x) c.stored.ensures

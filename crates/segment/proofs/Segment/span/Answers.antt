-- `segment::Segment::span`: its blocks, whole.
use mathlib.Core.Path.{ap}
use Prim.Native.Nat.{ℕ, ◌*◌}
use native.Mathlib.Omega.{arith}
use Rattle.segment.specs.Places.{span_of}
use Rattle.segment.proofs.Places.{span_few}
use Rattle.segment.proofs.Segment.span.Goals as goal

pub overflow_mul-result : goal.overflow_mul-result
overflow_mul-result c = rw c.stored.ensures (omega (arith, span_few c.args.self.numbers c.args.count c.args.self.is c.requires))

pub returns : goal.returns
unfolding span_of
returns c = ap (λ (x : ℕ). c.args.count * x) c.stored.ensures

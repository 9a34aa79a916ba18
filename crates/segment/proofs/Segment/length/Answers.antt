-- `segment::Segment::length`: count times stored block, far below 2 ^ 64.
use Prim.Native.Nat.{◌≤◌}
use native.Mathlib.Nat.{mul-le-mul}
use native.Mathlib.Omega.{arith}
use Rattle.segment.specs.Segment.{length_of}
use Rattle.segment.proofs.Laws.{sizes}
use Rattle.segment.proofs.Segment.length.Goals as goal

pub overflow_mul-result : goal.overflow_mul-result
overflow_mul-result c =
    let most : c.stored.result ≤ 4160 = omega (arith, (sizes _ c.args.self.is).stored_most, c.stored.ensures) in
    omega (arith, mul-le-mul c.args.self.is.count most)

pub returns : goal.returns
unfolding length_of
returns c = rw c.stored.ensures

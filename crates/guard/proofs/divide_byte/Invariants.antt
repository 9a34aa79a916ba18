-- `guard::divide_byte`: the terms that are still to be brought down give what all of them give.
use mathlib.Core.Path.{◌≡◌}
use Prim.Native.Nat.{◌≤◌}
use Rattle.guard.specs.Guard.{divide, terms}
use Rattle.guard.proofs.divide_byte.Given as goal

abbrev pub invariant-loop-k : goal.invariant-loop-k
invariant-loop-k l = (l.k ≤ 8) × (divide l.n (terms l.k l.b) ≡ divide l.r (terms 8 l.b))

abbrev pub decreases-loop-k : goal.decreases-loop-k
decreases-loop-k l = l.k

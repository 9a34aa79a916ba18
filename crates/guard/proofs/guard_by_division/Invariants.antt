-- `guard::guard_by_division`: the bytes that are left, with the sixteen zeros behind them, give what all of them give.
use mathlib.Core.Path.{◌≡◌}
use mathlib.Core.List.{◌++◌}
use Prim.Native.Nat.{◌≤◌}
use lib.ListN.{length, drop, replicate}
use Rattle.guard.specs.Guard.{guard, divide, terms_of}
use Rattle.guard.proofs.guard_by_division.Given as goal

abbrev pub invariant-loop-b : goal.invariant-loop-b
invariant-loop-b l = (l.b-index ≤ length l.«data») × (divide l.r (terms_of (drop l.b-index l.«data») ++ replicate 16 0) ≡ guard l.«data»)

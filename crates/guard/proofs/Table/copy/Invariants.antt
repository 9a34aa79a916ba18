-- `guard::Table::copy`: many bytes by the two functions that it calls; of few, what is copied and what is left make up the source, and the bytes that are left, from the remainder so far, give what all of them give.
use mathlib.Core.Path.{◌≡◌}
use mathlib.Core.List.{◌++◌}
use Prim.Native.Nat.{◌≤◌, ◌<◌}
use lib.ListN.{length, take, drop}
use Rattle.guard.specs.Guard.{guard}
use Rattle.guard.specs.Remainder.{guard_from}
use Rattle.guard.proofs.Table.copy.Given as goal

abbrev pub invariant-loop-i : goal.invariant-loop-i
invariant-loop-i l = (length l.d ≡ length l.fn.d) × (l.i ≤ length l.«data») × (take l.i l.d ++ drop l.i l.«data» ≡ l.«data») × (l.r < 65536) × (guard_from l.r (drop l.i l.«data») ≡ guard l.«data»)

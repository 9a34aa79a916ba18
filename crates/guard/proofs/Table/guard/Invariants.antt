-- `guard::Table::guard`: the bytes that are left, from the remainder so far, give what all of them give; a step through a right table is a step of the guard.
use mathlib.Core.Path.{◌≡◌}
use Prim.Native.Nat.{◌≤◌, ◌<◌}
use lib.ListN.{length, drop}
use Rattle.guard.specs.Guard.{guard}
use Rattle.guard.specs.Remainder.{guard_from}
use Rattle.guard.proofs.Table.guard.Given as goal

abbrev pub invariant-loop-b : goal.invariant-loop-b
invariant-loop-b l = (l.b-index ≤ length l.«data») × (l.r < 65536) × (guard_from l.r (drop l.b-index l.«data») ≡ guard l.«data»)

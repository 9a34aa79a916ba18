-- `guard::Rows::guard`: the bytes that are left, two by two, give from the remainder so far what all of them give.
use mathlib.Core.Path.{◌≡◌}
use mathlib.Core.List.{List}
use Prim.Native.Nat.{ℕ, ◌-◌, ◌%◌, ◌≤◌, ◌<◌}
use lib.ListN.{length, drop}
use Rattle.guard.specs.Guard.{guard}
use Rattle.guard.specs.Remainder.{guard_from}
use Rattle.guard.proofs.Rows.guard.Given as goal

-- an even number of bytes is left
pub record Going (s : List ℕ) (r i : ℕ) : Type 0 where
  pub fewer : i ≤ length s
  pub even : (length s - i) % 2 ≡ 0
  pub small : r < 65536
  pub same : guard_from r (drop i s) ≡ guard s

abbrev pub invariant-loop-i : goal.invariant-loop-i
invariant-loop-i l = Going l.«data» l.r l.i

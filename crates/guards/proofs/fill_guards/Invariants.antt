-- `guards::fill_guards`: the guards that stand, and those of the intervals that are left, make up all of them.
use mathlib.Core.Path.{◌≡◌}
use mathlib.Core.List.{List, ◌++◌}
use Prim.Native.Nat.{ℕ, ◌+◌, ◌*◌, ◌-◌}
use lib.ListN.{length, take, drop}
use Rattle.words.specs.Runs.{runs}
use Rattle.guards.specs.Guards.{guard_of_first, guards_of}
use Rattle.guards.proofs.fill_guards.Given as goal

pub record Going (s : List ℕ) (size count : ℕ) (out₀ out : List ℕ) (left i at : ℕ) : Type 0 where
  pub kept : length out ≡ length out₀
  pub from : i + left * size ≡ length s
  pub to : at + left * 2 ≡ length out₀
  pub made : take at out ++ runs (guard_of_first size) (λ t. t) size left 0 (drop i s) ≡ guards_of size count s

abbrev pub invariant-loop-i : goal.invariant-loop-i
invariant-loop-i l = Going l.«data» l.size l.count l.fn.out l.out (l.count - l.i) (l.i * l.size) (l.i * 2)

-- `filling::fill_intervals`: the fresh intervals that stand, and those that are left, make up all of them.
use mathlib.Core.Path.{◌≡◌}
use mathlib.Core.List.{List, [], ◌++◌}
use Prim.Native.Nat.{ℕ, ◌+◌, ◌*◌, ◌-◌}
use lib.ListN.{length, take}
use Rattle.words.specs.Runs.{runs}
use Rattle.filling.specs.Fresh.{fresh_interval, fresh_intervals}
use Rattle.filling.proofs.fill_intervals.Given as goal

abbrev pub piece : ℕ → ℕ → List ℕ → List ℕ
piece size t l = fresh_interval size

pub record Going (size count : ℕ) (d₀ d : List ℕ) (left at : ℕ) : Type 0 where
  pub kept : length d ≡ length d₀
  pub to : at + left * (size + 8) ≡ length d₀
  pub made : take at d ++ runs (piece size) (λ t. t) 0 left 0 [] ≡ fresh_intervals size count

abbrev pub invariant-loop-i : goal.invariant-loop-i
invariant-loop-i l = Going l.size l.count l.fn.d l.d (l.count - l.i) (l.i * (l.size + 8))

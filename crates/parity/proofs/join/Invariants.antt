-- `parity::join`: what is made is as much of the whole, a stretch more with each turn.
use mathlib.Core.Path.{◌≡◌}
use mathlib.Core.List.{List}
use Prim.Native.Nat.{ℕ, ◌≤◌}
use lib.ListN.{length, take}
use Rattle.parity.specs.Stretch.{joined}
use Rattle.parity.proofs.join.Given as goal

pub record Going (whole out₀ out : List ℕ) (at : ℕ) : Type 0 where
  pub kept : length out ≡ length out₀
  pub sized : length whole ≡ length out₀
  pub within : at ≤ length out₀
  pub made : take at out ≡ take at whole

abbrev pub invariant-loop-at : goal.invariant-loop-at
invariant-loop-at l = Going (joined (length l.fn.out) l.m l.before l.n l.after) l.fn.out l.out l.at

-- `parity::xor_stretch`: what stands, with the parts that are left, gives what all parts give; two parts are two turns of one.
use mathlib.Core.Path.{◌≡◌}
use mathlib.Core.List.{List}
use Prim.Native.Nat.{ℕ, ◌+◌, ◌-◌, ◌*◌, ◌≤◌}
use lib.ListN.{length, drop}
use Rattle.parity.specs.Stretch.{xor_stretch}
use Rattle.parity.proofs.xor_stretch.Given as goal

pub record Going (piece₀ parts : List ℕ) (at long count : ℕ) (piece : List ℕ) (left i : ℕ) : Type 0 where
  pub kept : length piece ≡ length piece₀
  pub near : at + length piece₀ ≤ long
  pub from : i + left * long ≡ length parts
  pub made : xor_stretch long (length piece₀) left piece (drop (i + at) parts) ≡ xor_stretch long (length piece₀) count piece₀ (drop at parts)

abbrev pub invariant-loop-pair : goal.invariant-loop-pair
invariant-loop-pair l = Going l.fn.piece l.parts l.at l.long l.count l.piece (l.count - 2 * l.pair) (2 * l.pair * l.long)

-- `comparison::same_block`: the pieces that are left are the same exactly when, behind those seen, all are.
use mathlib.Core.Path.{◌≡◌}
use mathlib.Core.List.{List}
use Prim.Native.Nat.{ℕ, ◌+◌, ◌*◌, ◌-◌, ◌≤◌}
use lib.ListN.{length, drop}
use Rattle.comparison.specs.declared.Cut.{Cut}
use Rattle.comparison.specs.Comparison.{same}
use Rattle.comparison.specs.Inner.{parts_of}
use Rattle.comparison.proofs.same_block.Given as goal

pub record Going (k : Cut) (stored sent : List ℕ) (left i j : ℕ) : Type 0 where
  pub from : i + left * k.stride ≡ length stored
  pub to : j + left * k.size ≡ length sent
  pub apart : k.size ≤ k.stride
  pub rest : same (parts_of k left (drop i stored)) (drop j sent) ≡ same (parts_of k k.pieces stored) sent

abbrev pub invariant-loop-i : goal.invariant-loop-i
invariant-loop-i l = Going l.k l.stored l.sent (l.k.pieces - l.i) (l.i * l.k.stride) (l.i * l.k.size)

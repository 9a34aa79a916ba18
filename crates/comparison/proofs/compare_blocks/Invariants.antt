-- `comparison::compare_blocks`: the blocks that are left give, from the address reached, what all of them give.
use mathlib.Core.Path.{◌≡◌}
use mathlib.Core.List.{List}
use Prim.Native.Nat.{ℕ, ◌+◌, ◌*◌, ◌-◌, ◌≤◌}
use lib.ListN.{length, drop}
use Rattle.answer.specs.Answer.{Answer}
use Rattle.comparison.specs.declared.Cut.{Cut}
use Rattle.comparison.specs.Comparison.{compare_blocks}
use Rattle.comparison.specs.Inner.{parts_of}
use Rattle.comparison.proofs.compare_blocks.Given as goal

-- the bytes of a block, stored and sent
abbrev pub block : Cut → ℕ
block k = k.pieces * k.stride

abbrev pub each : Cut → ℕ
each k = k.pieces * k.size

abbrev pub all : Cut → ℕ → ℕ → List ℕ → List ℕ → Answer
all k address count stored sent = compare_blocks (each k) count address (parts_of k (count * k.pieces) stored) sent

pub record Going (k : Cut) (address count : ℕ) (stored sent : List ℕ) (left i j : ℕ) : Type 0 where
  pub from : i + left * block k ≡ length stored
  pub to : j + left * each k ≡ length sent
  pub apart : k.size ≤ k.stride
  pub fewer : left ≤ count
  pub rest : all k (address + (count - left)) left (drop i stored) (drop j sent) ≡ all k address count stored sent

abbrev pub invariant-loop-i : goal.invariant-loop-i
invariant-loop-i l = Going l.k l.address l.count l.stored l.sent (l.count - l.i) (l.i * block l.k) (l.i * each l.k)

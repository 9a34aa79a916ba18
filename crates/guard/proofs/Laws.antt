-- The laws of the guard that later parts stand on.
-- Assumes nothing.
use mathlib.Core.Path.{◌≡◌, sym, ap, ap₂, ◌∙◌}
use mathlib.Core.List.{List, ◌++◌}
use Prim.Native.Nat.{ℕ, ◌*◌, ◌<◌}
use lib.Bits.{bit_xor, xor_zero_r}
use lib.Dec.{lit<}
use lib.ListN.{length, replicate, length-replicate}
use Rattle.words.specs.Xor.{xors}
use Rattle.words.proofs.Xor.{xors_comm, xors_zero}
use Rattle.guard.specs.Guard.{guard}
use Rattle.guard.specs.Remainder.{guard_from, times}
use Rattle.guard.proofs.Remainder.{guard_from_lt, guard_from_xors, guard_from_append, guard_from_zeros}
use Rattle.guard.proofs.Division.{guard_from_zero}

pub guard_lt : (s : List ℕ) → guard s < 65536
guard_lt s = rw guard_from_zero (guard_from_lt s 0 (lit< tt))

pub guard_xors : (a b : List ℕ) → length a ≡ length b → guard (xors a b) ≡ bit_xor (guard a) (guard b)
guard_xors a b h =
    guard_from_zero (xors a b) ∙ guard_from_xors a b 0 0 h ∙ ap₂ bit_xor (sym (guard_from_zero a)) (sym (guard_from_zero b))

-- the first list's guard is the starting remainder of the second
pub guard_append : (a b : List ℕ) → guard (a ++ b) ≡ guard_from (guard a) b
guard_append a b =
    guard_from_zero (a ++ b) ∙ guard_from_append a b 0 ∙ ap (λ (r : ℕ). guard_from r b) (sym (guard_from_zero a))

-- a starting remainder is moved past the data as past zeros, and meets the data's own guard
pub guard_from_split : (r : ℕ) (s : List ℕ) → guard_from r s ≡ bit_xor (times (length s * 8) r) (guard s)
guard_from_split r s =
    ap₂ guard_from (sym (xor_zero_r r)) (sym (xors_comm zeros s ∙ xors_zero s))
    ∙ guard_from_xors zeros s r 0 (length-replicate (length s) 0)
    ∙ ap₂ bit_xor (guard_from_zeros (length s) r) (sym (guard_from_zero s))
  where
    zeros : List ℕ
    zeros = replicate (length s) 0

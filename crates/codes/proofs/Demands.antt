-- Document 01's sentences on codes say what its table says.
-- Assumes nothing.
use mathlib.Core.Path.{◌≡◌, refl, sym}
use mathlib.Core.Bool.{not}
use Prim.Native.Nat.{ℕ, zero, suc, ◌<◌}
use native.Mathlib.Omega.{arith}
use borrow.Author.Tests.{ne_eqb, lt-ltb}
use lib.Dec.{eqb, ltb}
use Rattle.codes.specs.Codes.{columns_of}
use Rattle.codes.proofs.InRows.{not_served}

above : (n : ℕ) → 0b101 < n → ((columns_of n).refused ≡ ltb 0b101 n) × ((columns_of n).fields ≡ not (eqb n 0))
above n h = rw (not_served n h) (sym (lt-ltb 0b101 n h), rw (ne_eqb n 0 (omega arith)) refl)

sentences : (n : ℕ) → ((columns_of n).refused ≡ ltb 0b101 n) × ((columns_of n).fields ≡ not (eqb n 0))
unfolding columns_of
sentences zero = (refl, refl)
sentences (suc zero) = (refl, refl)
sentences (suc (suc zero)) = (refl, refl)
sentences (suc (suc (suc zero))) = (refl, refl)
sentences (suc (suc (suc (suc zero)))) = (refl, refl)
sentences (suc (suc (suc (suc (suc zero))))) = (refl, refl)
sentences (suc (suc (suc (suc (suc (suc m)))))) = above (suc (suc (suc (suc (suc (suc m)))))) (omega arith)

-- "protect code 110 or 111 6": refused are those above 101
pub refused_above : (n : ℕ) → (columns_of n).refused ≡ ltb 0b101 n
refused_above n = (sentences n).0

-- "With code 000 the buffer holds T × B bytes, otherwise T × S": blocks are moved with fields under every code but 000
pub fields_but_for_zero : (n : ℕ) → (columns_of n).fields ≡ not (eqb n 0)
fields_but_for_zero n = (sentences n).1

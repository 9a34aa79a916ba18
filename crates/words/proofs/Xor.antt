-- The laws of the exclusive or of two lists. Where one has no premise on lengths, it holds of any two lists.
-- Assumes nothing.
use mathlib.Core.Path.{◌≡◌, refl, sym, ap, ap₂}
use mathlib.Core.List.{List, [], ◌∷◌, ◌++◌}
use Prim.Native.Nat.{ℕ, zero, suc}
use native.Mathlib.Nat.{suc_inj}
use native.Mathlib.Omega.{arith}
use lib.Bits.{bit_xor, xor_comm, xor_self, xor_zero_r, xor_lt}
use lib.ListN.{length, get_or, take, drop, replicate}
use Rattle.words.specs.Xor.{xors}
use Rattle.words.specs.Parts.{Bytes}
use Rattle.words.proofs.BitXor.{xor_assoc, xor_cancel}

pub xors_nil : (a : List ℕ) → xors a [] ≡ []
unfolding xors
xors_nil [] = refl
xors_nil (x ∷ a) = refl

pub xors_length : (a b : List ℕ) → length a ≡ length b → length (xors a b) ≡ length a
unfolding xors
xors_length [] b h = refl
xors_length (x ∷ a) [] h = absurd (omega arith)
xors_length (x ∷ a) (y ∷ b) h = ap suc (xors_length a b (suc_inj h))

pub xors_assoc : (a b c : List ℕ) → xors (xors a b) c ≡ xors a (xors b c)
unfolding xors
xors_assoc [] b c = refl
xors_assoc (x ∷ a) [] c = refl
xors_assoc (x ∷ a) (y ∷ b) [] = refl
xors_assoc (x ∷ a) (y ∷ b) (z ∷ c) = ap₂ (λ (u : ℕ) (l : List ℕ). u ∷ l) (xor_assoc x y z) (xors_assoc a b c)

pub xors_comm : (a b : List ℕ) → xors a b ≡ xors b a
unfolding xors
xors_comm [] b = sym (xors_nil b)
xors_comm (x ∷ a) [] = refl
xors_comm (x ∷ a) (y ∷ b) = ap₂ (λ (u : ℕ) (l : List ℕ). u ∷ l) (xor_comm x y) (xors_comm a b)

pub xors_self : (a : List ℕ) → xors a a ≡ replicate (length a) 0
unfolding xors
xors_self [] = refl
xors_self (x ∷ a) = ap₂ (λ (u : ℕ) (l : List ℕ). u ∷ l) (xor_self x) (xors_self a)

pub xors_zero : (a : List ℕ) → xors a (replicate (length a) 0) ≡ a
unfolding xors
xors_zero [] = refl
xors_zero (x ∷ a) = ap₂ (λ (u : ℕ) (l : List ℕ). u ∷ l) (xor_zero_r x) (xors_zero a)

pub xors_cancel : (a b : List ℕ) → length a ≡ length b → xors (xors a b) b ≡ a
unfolding xors
xors_cancel [] b h = refl
xors_cancel (x ∷ a) [] h = absurd (omega arith)
xors_cancel (x ∷ a) (y ∷ b) h = ap₂ (λ (u : ℕ) (l : List ℕ). u ∷ l) (xor_cancel x y) (xors_cancel a b (suc_inj h))

pub xors_get_d : (a b : List ℕ) → length a ≡ length b → (i : ℕ) → get_or (xors a b) i 0 ≡ bit_xor (get_or a i 0) (get_or b i 0)
unfolding xors
xors_get_d [] [] h i = refl
xors_get_d [] (y ∷ b) h i = absurd (omega arith)
xors_get_d (x ∷ a) [] h i = absurd (omega arith)
xors_get_d (x ∷ a) (y ∷ b) h zero = refl
xors_get_d (x ∷ a) (y ∷ b) h (suc i) = xors_get_d a b (suc_inj h) i

pub xors_bytes : (a b : List ℕ) → length a ≡ length b → Bytes a → Bytes b → Bytes (xors a b)
xors_bytes a b h p q i = rw (xors_get_d a b h i) (xor_lt 8 (get_or a i 0) (get_or b i 0) (p i) (q i))

pub xors_take : (n : ℕ) (a b : List ℕ) → take n (xors a b) ≡ xors (take n a) (take n b)
unfolding xors
xors_take zero a b = refl
xors_take (suc n) [] b = refl
xors_take (suc n) (x ∷ a) [] = refl
xors_take (suc n) (x ∷ a) (y ∷ b) = ap (λ (l : List ℕ). bit_xor x y ∷ l) (xors_take n a b)

pub xors_drop : (n : ℕ) (a b : List ℕ) → drop n (xors a b) ≡ xors (drop n a) (drop n b)
unfolding xors
xors_drop zero a b = refl
xors_drop (suc n) [] b = refl
xors_drop (suc n) (x ∷ a) [] = sym (xors_nil (drop n a))
xors_drop (suc n) (x ∷ a) (y ∷ b) = xors_drop n a b

pub xors_append : (a b c d : List ℕ) → length a ≡ length b → xors (a ++ c) (b ++ d) ≡ xors a b ++ xors c d
unfolding xors
xors_append [] [] c d h = refl
xors_append [] (y ∷ b) c d h = absurd (omega arith)
xors_append (x ∷ a) [] c d h = absurd (omega arith)
xors_append (x ∷ a) (y ∷ b) c d h = ap (λ (l : List ℕ). bit_xor x y ∷ l) (xors_append a b c d (suc_inj h))

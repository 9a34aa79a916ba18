-- The guard error is linear, so that the error of an exclusive or is the exclusive or of the errors.
-- Assumes nothing.
use mathlib.Core.Path.{◌≡◌, refl, sym, ap, ap₂, ◌∙◌}
use mathlib.Core.List.{List}
use Prim.Native.Nat.{ℕ, zero, suc, ◌*◌, ◌≤◌, ◌<◌}
use native.Mathlib.Nat.{suc-mul}
use native.Mathlib.Omega.{arith}
use lib.Bits.{bit_xor, xor_zero_l, xor_zero_r, xor_self}
use lib.Dec.{lit<}
use lib.ListN.{length, take, drop, replicate, length-take, length-drop, length-replicate}
use lib.Seq.{length-take-le}
use Rattle.words.specs.Parts.{Bytes}
use Rattle.words.specs.Xor.{xors}
use Rattle.words.proofs.BitXor.{xor_assoc, xor_swap}
use Rattle.words.proofs.Parts.{take_bytes, drop_bytes}
use Rattle.words.proofs.Xor.{xors_take, xors_self, xors_length, xors_bytes}
use Rattle.guard.specs.Guard.{guard}
use Rattle.guard.proofs.Laws.{guard_xors}
use Rattle.field.specs.Field.{data_of, field_of, stored_guard}
use Rattle.field.proofs.Laws.{stored_xors}
use Rattle.parity.specs.Parity.{part, xor_parts, parity_of}
use Rattle.parity.proofs.Sums.{part_first, part_next}
use Rattle.stripe.specs.Error.{error_at, xor_over}

-- ---- lists of bytes
zeros_bytes : (n : ℕ) → Bytes (replicate n 0)
zeros_bytes zero i = lit< tt
zeros_bytes (suc n) zero = lit< tt
zeros_bytes (suc n) (suc i) = zeros_bytes n i

-- parts of lists of one length have one length
same_part : (at n : ℕ) (a b : List ℕ) → length a ≡ length b → length (take n (drop at a)) ≡ length (take n (drop at b))
same_part at n a b h = simp (length-take, length-drop, h)

-- ---- the error of one interval
pub error_xors : (size : ℕ) (a b : List ℕ) → length a ≡ length b → Bytes a → Bytes b → error_at size (xors a b) ≡ bit_xor (error_at size a) (error_at size b)
unfolding error_at data_of
error_xors size a b h p q =
    ap₂ bit_xor (stored_xors size a b h p q)
    (ap guard (xors_take size a b) ∙ guard_xors (take size a) (take size b) (same_part 0 size a b h))
    ∙ xor_swap (stored_guard (field_of size a)) (stored_guard (field_of size b)) (guard (take size a)) (guard (take size b))

-- ---- the exclusive or of a list of numbers
pub over_same : (k : ℕ) (f g : ℕ → ℕ) → ((m : ℕ) → f m ≡ g m) → xor_over k f ≡ xor_over k g
unfolding xor_over
over_same zero f g e = refl
over_same (suc k) f g e = ap₂ bit_xor (e 0) (over_same k (λ m. f (suc m)) (λ m. g (suc m)) (λ m. e (suc m)))

pub over_zero : (k : ℕ) (f : ℕ → ℕ) → ((m : ℕ) → m < k → f m ≡ 0) → xor_over k f ≡ 0
unfolding xor_over
over_zero zero f e = refl
over_zero (suc k) f e = ap₂ bit_xor (e 0 (omega arith)) (over_zero k (λ m. f (suc m)) (λ m h. e (suc m) (omega arith)))

pub over_one : (k m : ℕ) (f : ℕ → ℕ) → m < k → ((j : ℕ) → j < k → (j ≡ m → ⊥) → f j ≡ 0) → xor_over k f ≡ f m
unfolding xor_over
over_one zero m f h e = absurd (omega arith)
over_one (suc k) zero f h e =
    ap (bit_xor (f 0)) (over_zero k (λ m. f (suc m)) (λ m l. e (suc m) (omega arith) (λ z. omega arith))) ∙ xor_zero_r (f 0)
over_one (suc k) (suc m) f h e =
    ap (λ (x : ℕ). bit_xor x (xor_over k (λ j. f (suc j)))) (e 0 (omega arith) (λ z. omega arith))
    ∙ xor_zero_l _ ∙ over_one k m (λ j. f (suc j)) (omega arith) (λ j l n. e (suc j) (omega arith) (λ z. n (omega arith)))

-- ---- what is linear in a list of bytes, of the exclusive or of parts
module _ (g : List ℕ → ℕ) (long : ℕ) (linear : (a b : List ℕ) → length a ≡ long → length b ≡ long → Bytes a → Bytes b → g (xors a b) ≡ bit_xor (g a) (g b)) where
  of_xor_parts : (k : ℕ) (out s : List ℕ) → length out ≡ long → Bytes out → k * long ≤ length s → Bytes s
      → g (xor_parts long k out s) ≡ bit_xor (g out) (xor_over k (λ m. g (part long m s)))
  unfolding xor_parts xor_over
  of_xor_parts zero out s e p h q = sym (xor_zero_r (g out))
  of_xor_parts (suc k) out s e p h q =
      let size : length (take long s) ≡ long = length-take-le long s (omega (arith, suc-mul k long)) in
      let rest : k * long ≤ length (drop long s) = simp length-drop (omega (arith, suc-mul k long)) in
      let bytes : Bytes (take long s) = take_bytes long s q in
      let same : length out ≡ length (take long s) = e ∙ sym size in
      of_xor_parts k (xors out (take long s)) (drop long s) (xors_length out (take long s) same ∙ e) (xors_bytes out (take long s) same p bytes) rest (drop_bytes long s q)
      ∙ ap₂ bit_xor
      (linear out (take long s) e size p bytes ∙ ap (λ (l : List ℕ). bit_xor (g out) (g l)) (sym (part_first long s)))
      (over_same k _ _ (λ m. ap g (part_next long m s)))
      ∙ xor_assoc (g out) (g (part long 0 s)) _

  pub of_parity : (k : ℕ) (s : List ℕ) → k * long ≤ length s → Bytes s → g (parity_of long k s) ≡ xor_over k (λ m. g (part long m s))
  unfolding parity_of
  of_parity k s h q =
      of_xor_parts k (replicate long 0) s size (zeros_bytes long) h q
      ∙ ap (λ (x : ℕ). bit_xor x (xor_over k (λ m. g (part long m s)))) nothing
      ∙ xor_zero_l _
    where
      size : length (replicate {A = ℕ} long 0) ≡ long
      size = length-replicate long 0

      nothing : g (replicate long 0) ≡ 0
      nothing =
          sym (ap g (xors_self (replicate long 0) ∙ ap (λ (n : ℕ). replicate n 0) size))
          ∙ linear (replicate long 0) (replicate long 0) size size (zeros_bytes long) (zeros_bytes long)
          ∙ xor_self (g (replicate long 0))

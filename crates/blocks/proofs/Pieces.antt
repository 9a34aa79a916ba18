-- Laws of what is made piece by piece from a list: its length, what it depends on, and how it is read back.
-- Assumes nothing.
use mathlib.Core.Path.{◌≡◌, refl, sym, ap, ap₂, ◌∙◌}
use mathlib.Core.List.{List, [], ◌∷◌, ◌++◌, append_assoc}
use Prim.Native.Nat.{ℕ, zero, suc, ◌+◌, ◌-◌, ◌*◌, ◌≤◌}
use native.Mathlib.Nat.{suc-mul, zero-mul, le_of_eq}
use native.Mathlib.Omega.{arith}
use lib.ListN.{length, take, drop, length-append, length-drop, take-append-drop}
use lib.Seq.{drop-append-le, drop_at, take-add, length-take-le}
use Rattle.words.specs.Runs.{runs}
use Rattle.words.proofs.Parts.{part_at, one_more}
use Rattle.words.proofs.Turns.{after_same}
use Rattle.words.proofs.Runs.{runs_two}

-- one piece, and the rest
pub one_within : (k P n : ℕ) → suc k * P ≤ n → P ≤ n
one_within k P n h = omega (arith, suc-mul k P)

pub rest_within : (k P : ℕ) (s : List ℕ) → suc k * P ≤ length s → k * P ≤ length (drop P s)
rest_within k P s h = rw length-drop (omega (arith, suc-mul k P))

module _ {A : Type 0} (piece : A → List ℕ → List ℕ) (next : A → A) (P : ℕ) where
  pub runs_none : (k : ℕ) (t : A) (s : List ℕ) → k ≤ 0 → runs piece next P k t s ≡ []
  unfolding runs
  runs_none zero t s h = refl
  runs_none (suc k) t s h = absurd (omega arith)

  pub runs_length : (p : ℕ) → ((t : A) (l : List ℕ) → P ≤ length l → length (piece t l) ≡ p)
      → (k : ℕ) (t : A) (s : List ℕ) → k * P ≤ length s → length (runs piece next P k t s) ≡ k * p
  unfolding runs
  runs_length p each zero t s h = sym (zero-mul p)
  runs_length p each (suc k) t s h =
      length-append (piece t s) (runs piece next P k (next t) (drop P s))
      ∙ ap₂ (λ (x y : ℕ). x + y) (each t s (one_within k P (length s) h)) (runs_length p each k (next t) (drop P s) (rest_within k P s h))
      ∙ sym (one_more k p)

  -- what lies behind the pieces' own elements does not count
  pub runs_behind : ((t : A) (l r : List ℕ) → P ≤ length l → piece t (l ++ r) ≡ piece t l)
      → (k : ℕ) (t : A) (s r : List ℕ) → k * P ≤ length s → runs piece next P k t (s ++ r) ≡ runs piece next P k t s
  unfolding runs
  runs_behind own zero t s r h = refl
  runs_behind own (suc k) t s r h =
      ap₂ (λ (x y : List ℕ). x ++ y) (own t s r (one_within k P (length s) h))
      (ap (runs piece next P k (next t)) (drop-append-le P s r (one_within k P (length s) h))
      ∙ runs_behind own k (next t) (drop P s) r (rest_within k P s h))

  -- where each piece of Q elements gives back what it was made of, so do all
  pub runs_read : (read : List ℕ → List ℕ) (Q : ℕ) → ((t : A) (l r : List ℕ) → P ≤ length l → read (piece t l ++ r) ≡ take P l)
      → ((t : A) (l : List ℕ) → P ≤ length l → length (piece t l) ≡ Q) → (k : ℕ) (t : A) (s r : List ℕ) → k * P ≤ length s
      → runs (λ (u : ℕ) (l : List ℕ). read l) (λ u. u) Q k 0 (runs piece next P k t s ++ r) ≡ take (k * P) s
  unfolding runs
  runs_read read Q back each zero t s r h = rw zero-mul
  runs_read read Q back each (suc k) t s r h =
      let one = one_within k P (length s) h in
      let others = runs piece next P k (next t) (drop P s) in
      rw (append_assoc (piece t s) others r)
      (ap₂ (λ (x y : List ℕ). x ++ y) (back t s (others ++ r) one)
      (ap (runs (λ (u : ℕ) (l : List ℕ). read l) (λ u. u) Q k 0) (drop_at (piece t s) (others ++ r) Q (each t s one))
      ∙ runs_read read Q back each k (next t) (drop P s) r (rest_within k P s h))
      ∙ sym (take-add P (k * P) s) ∙ ap (λ (n : ℕ). take n s) (sym (one_more k P)))

-- what is made of a part of P elements alone is made of the list from there on
pub of_part : (made : List ℕ → List ℕ) (P i : ℕ) (s new : List ℕ) → ((l r : List ℕ) → P ≤ length l → made (l ++ r) ≡ made l) → i + P ≤ length s
    → new ≡ made (take (i + P - i) (drop i s)) → new ≡ made (drop i s)
of_part made P i s new own h e =
    let long : length (take P (drop i s)) ≡ P = length-take-le P (drop i s) (rw length-drop (omega arith)) in
    e ∙ ap made (part_at i P s) ∙ sym (own (take P (drop i s)) (drop P (drop i s)) (le_of_eq (sym long))) ∙ ap made (take-append-drop P (drop i s))

nil_of : (s : List ℕ) → length s ≡ 0 → s ≡ []
nil_of [] e = refl
nil_of (x ∷ s) e = absurd (omega arith)

-- a list is all of its pieces
pub runs_same : (k P : ℕ) (s : List ℕ) → k * P ≡ length s → runs (λ (u : ℕ) (l : List ℕ). take P l) (λ u. u) P k 0 s ≡ s
unfolding runs
runs_same zero P s e = sym (nil_of s (omega (arith, zero-mul P)))
runs_same (suc k) P s e =
    let rest : k * P ≡ length (drop P s) = rw length-drop (omega (arith, suc-mul k P)) in
    ap (λ (l : List ℕ). take P s ++ l) (runs_same k P (drop P s) rest) ∙ take-append-drop P s

-- pieces that are all made alike, in lots of n
module _ {A : Type 0} (piece : A → List ℕ → List ℕ) (P : ℕ) (t : A) where
  pub runs_lots : (n k : ℕ) (s : List ℕ) → runs piece (λ u. u) P (k * n) t s ≡ runs (λ (u : ℕ) (l : List ℕ). runs piece (λ u. u) P n t l) (λ u. u) (n * P) k 0 s
  unfolding runs
  runs_lots n zero s = rw zero-mul
  runs_lots n (suc k) s =
      ap (λ (j : ℕ). runs piece (λ u. u) P j t s) (one_more k n) ∙ runs_two piece (λ u. u) P n (k * n) t s
      ∙ ap (λ (u : A). runs piece (λ u. u) P n t s ++ runs piece (λ u. u) P (k * n) u (drop (n * P) s)) (after_same n t)
      ∙ ap (λ (l : List ℕ). runs piece (λ u. u) P n t s ++ l) (runs_lots n k (drop (n * P) s))

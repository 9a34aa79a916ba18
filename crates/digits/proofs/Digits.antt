-- The laws of numbers in digits: how many there are, and one digit more printed behind those before it.
-- Assumes nothing.
use mathlib.Core.Path.{◌≡◌, refl, ◌∙◌}
use mathlib.Core.List.{List, [], ◌∷◌, ◌++◌}
use Prim.Native.Nat.{ℕ, zero, suc, ◌+◌, ◌-◌, ◌/◌, ◌%◌, ◌<◌, ◌≤◌}
use native.Mathlib.Numerals.{add-one}
use native.Mathlib.Omega.{arith}
use borrow.Author.Tests.{lt-ltb, le-ltb}
use mathlib.Core.Bool.{true, false, cond}
use lib.Dec.{ltb}
use lib.ListN.{length, length-append}
use Rattle.writing.specs.Laid.{Written}
use Rattle.writing.proofs.Writing.{written_none, written_then}
use Rattle.digits.specs.Digits.{digit, hexadecimal, decimal_in, decimal}

pub digit_low : (n : ℕ) → n < 10 → 0x30 + n ≡ digit n
unfolding digit
digit_low n h = rw (lt-ltb n 10 h)

pub digit_high : (n : ℕ) → 10 ≤ n → 0x57 + n ≡ digit n
unfolding digit
digit_high n h = rw (le-ltb n 10 h)

-- ---- how many
pub hexadecimal_length : (k n : ℕ) → length (hexadecimal k n) ≡ k
unfolding hexadecimal
hexadecimal_length zero n = refl
hexadecimal_length (suc k) n = length-append (hexadecimal k (n / 16)) (digit (n % 16) ∷ []) ∙ rw (hexadecimal_length k (n / 16)) (add-one k)

decimal_in_most : (k n : ℕ) → length (decimal_in k n) ≤ k
unfolding decimal_in
decimal_in_most zero n = omega arith
decimal_in_most (suc k) n =
    let rest : List ℕ = decimal_in k (n / 10) ++ (digit (n % 10) ∷ []) in
    let longer : length rest ≤ suc k = omega (arith, length-append (decimal_in k (n / 10)) (digit (n % 10) ∷ []), decimal_in_most k (n / 10)) in
    elim (ltb n 10) as (λ b. length (cond b (digit n ∷ []) rest) ≤ suc k) [ true ↦ omega arith | false ↦ longer ]

pub decimal_most : (n : ℕ) → length (decimal n) ≤ 20
unfolding decimal
decimal_most n = decimal_in_most 20 n

-- where printing them ends
pub hexadecimal_end : (k n : ℕ) {at r : ℕ} {out left : List ℕ} → Written (hexadecimal k n) at out r left → r ≡ at + k
hexadecimal_end k n w = omega (arith, w.end, hexadecimal_length k n)

pub decimal_in_end : (k n : ℕ) {at r : ℕ} {out left : List ℕ} → Written (decimal_in k n) at out r left → r ≤ at + k
decimal_in_end k n w = omega (arith, w.end, decimal_in_most k n)

pub decimal_end : (n : ℕ) {at r : ℕ} {out left : List ℕ} → Written (decimal n) at out r left → r ≤ at + 20
decimal_end n w = omega (arith, w.end, decimal_most n)

-- ---- as they are printed
pub hexadecimal_none : (k n : ℕ) {at : ℕ} {out : List ℕ} → k ≡ 0 → Written (hexadecimal k n) at out at out
unfolding hexadecimal
hexadecimal_none k n {at} {out} e = rw e (written_none at out)

pub hexadecimal_next : (k n : ℕ) {d at m r : ℕ} {out mid left : List ℕ} → (k ≡ 0 → ⊥) → d ≡ digit (n % 16)
    → Written (hexadecimal (k - 1) (n / 16)) at out m mid → Written (d ∷ []) m mid r left → Written (hexadecimal k n) at out r left
unfolding hexadecimal
hexadecimal_next zero n h e p q = absurd (h refl)
hexadecimal_next (suc k) n h e p q = let down : suc k - 1 ≡ k = omega arith in written_then (rw down at p) (rw e at q)

pub decimal_none : (k n : ℕ) {at : ℕ} {out : List ℕ} → k ≡ 0 → Written (decimal_in k n) at out at out
unfolding decimal_in
decimal_none k n {at} {out} e = rw e (written_none at out)

pub decimal_last : (k n : ℕ) {d at r : ℕ} {out left : List ℕ} → (k ≡ 0 → ⊥) → n < 10 → d ≡ digit n → Written (d ∷ []) at out r left → Written (decimal_in k n) at out r left
unfolding decimal_in
decimal_last zero n h l e q = absurd (h refl)
decimal_last (suc k) n h l e q = rw (lt-ltb n 10 l) (rw e at q)

pub decimal_next : (k n : ℕ) {d at m r : ℕ} {out mid left : List ℕ} → (k ≡ 0 → ⊥) → 10 ≤ n → d ≡ digit (n % 10)
    → Written (decimal_in (k - 1) (n / 10)) at out m mid → Written (d ∷ []) m mid r left → Written (decimal_in k n) at out r left
unfolding decimal_in
decimal_next zero n h l e p q = absurd (h refl)
decimal_next (suc k) n h l e p q = let down : suc k - 1 ≡ k = omega arith in rw (le-ltb n 10 l) (written_then (rw down at p) (rw e at q))

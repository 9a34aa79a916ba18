-- What is printed of a number reads back as that number: each digit tells its value, and the last is what is left over.
-- Assumes nothing.
use mathlib.Core.Path.{◌≡◌, refl, ap, ◌∙◌}
use mathlib.Core.Bool.{Bool, true, false, cond}
use mathlib.Core.List.{List, [], ◌∷◌, ◌++◌}
use Prim.Native.Nat.{ℕ, zero, suc, ◌+◌, ◌-◌, ◌*◌, ◌/◌, ◌%◌, ◌^◌, ◌<◌, ◌≤◌}
use native.Mathlib.Nat.{zero-add, pow-suc, div-lt_iff_lt-mul, div-add-mod'}
use native.Mathlib.Omega.{arith}
use borrow.Author.Tests.{lt-ltb, le-ltb, ltb-true, ltb-false}
use lib.Dec.{lit<, ltb}
use Rattle.digits.specs.Digits.{digit, hexadecimal, decimal_in, decimal}
use Rattle.digits.proofs.Digits.{digit_low, digit_high}

-- the value of a digit, and of digits behind a number
unfoldable pub value_of : ℕ → ℕ
value_of c = cond (ltb c 0x3A) (c - 0x30) (c - 0x57)

unfoldable pub read_from : ℕ → ℕ → List ℕ → ℕ
read_from base n [] = n
read_from base n (c ∷ cs) = read_from base (n * base + value_of c) cs

digit_value : (n : ℕ) → value_of (digit n) ≡ n
unfolding value_of
digit_value n = by (ltb n 10) refl
  where
    by : (b : Bool) → ltb n 10 ≡ b → cond (ltb (digit n) 0x3A) (digit n - 0x30) (digit n - 0x57) ≡ n
    by true e =
        let low : n < 10 = ltb-true n 10 e in
        rw (← digit_low n low, lt-ltb (0x30 + n) 0x3A (omega arith)) (omega arith)
    by false e =
        let high : 10 ≤ n = ltb-false n 10 e in
        rw (← digit_high n high, le-ltb (0x57 + n) 0x3A (omega arith)) (omega arith)

read_append : (base n : ℕ) (a b : List ℕ) → read_from base n (a ++ b) ≡ read_from base (read_from base n a) b
unfolding read_from
read_append base n [] b = refl
read_append base n (c ∷ a) b = read_append base (n * base + value_of c) a b

-- a last digit behind those that read back
read_last : (base n : ℕ) (front : List ℕ) → read_from base 0 front ≡ n / base → read_from base 0 (front ++ (digit (n % base) ∷ [])) ≡ n
unfolding read_from
read_last base n front e =
    read_append base 0 front (digit (n % base) ∷ []) ∙ ap (λ (k : ℕ). read_from base 0 front * base + k) (digit_value (n % base))
    ∙ ap (λ (k : ℕ). k * base + n % base) e ∙ div-add-mod' n base

pub hexadecimal_reads : (k n : ℕ) → n < 16 ^ k → read_from 16 0 (hexadecimal k n) ≡ n
unfolding hexadecimal read_from
hexadecimal_reads zero n h = omega arith
hexadecimal_reads (suc k) n h = read_last 16 n (hexadecimal k (n / 16)) (hexadecimal_reads k (n / 16) ((div-lt_iff_lt-mul (lit< tt)).1 (rw pow-suc at h)))

decimal_in_reads : (k n : ℕ) → n < 10 ^ k → read_from 10 0 (decimal_in k n) ≡ n
unfolding decimal_in read_from
decimal_in_reads zero n h = omega arith
decimal_in_reads (suc k) n h =
    elim (ltb n 10)
    as (λ b. read_from 10 0 (cond b (digit n ∷ []) (decimal_in k (n / 10) ++ (digit (n % 10) ∷ []))) ≡ n) [
      | true ↦ zero-add _ ∙ digit_value n
      | false ↦ read_last 10 n (decimal_in k (n / 10)) (decimal_in_reads k (n / 10) ((div-lt_iff_lt-mul (lit< tt)).1 (rw pow-suc at h)))
    ]

-- every number of sixty-four bits
pub decimal_reads : (n : ℕ) → n < 2 ^ 64 → read_from 10 0 (decimal n) ≡ n
unfolding decimal
decimal_reads n h = decimal_in_reads 20 n (omega (arith, lit< {m = 2 ^ 64} {n = 10 ^ 20} tt))

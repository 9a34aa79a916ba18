-- Table 9 of 002 and the sentences of document 01 choose the same, for every number within the ranges: all are gone through.
-- Assumes nothing.
use mathlib.Core.Path.{◌≡◌, refl}
use Prim.Native.Nat.{ℕ, zero, suc, ◌≤◌}
use native.Mathlib.Omega.{arith}
use Rattle.format.specs.Choice.{look, table9, sentences}

-- what holds of 0 to 7 holds of every number up to 7
to7 : (P : ℕ → Type 0) → P 0 → P 1 → P 2 → P 3 → P 4 → P 5 → P 6 → P 7 → (n : ℕ) → n ≤ 7 → P n
to7 P a b c d e f g h zero l = a
to7 P a b c d e f g h (suc zero) l = b
to7 P a b c d e f g h (suc (suc zero)) l = c
to7 P a b c d e f g h (suc (suc (suc zero))) l = d
to7 P a b c d e f g h (suc (suc (suc (suc zero)))) l = e
to7 P a b c d e f g h (suc (suc (suc (suc (suc zero))))) l = f
to7 P a b c d e f g h (suc (suc (suc (suc (suc (suc zero)))))) l = g
to7 P a b c d e f g h (suc (suc (suc (suc (suc (suc (suc zero))))))) l = h
to7 P a b c d e f g h (suc (suc (suc (suc (suc (suc (suc (suc n)))))))) l = absurd (omega arith)

Same : ℕ → ℕ → ℕ → ℕ → Type 0
Same s p f u = look table9 s p f u ≡ sentences s p f u

-- where SPT is looked at, by its value; where usage is, by its
by_usage_lem : (s p f : ℕ) → Same s p f 0 → Same s p f 1 → Same s p f 2 → Same s p f 3 → Same s p f 4 → Same s p f 5 → Same s p f 6 → Same s p f 7 → (u : ℕ) → u ≤ 7 → Same s p f u
by_usage_lem s p f = to7 (λ u. Same s p f u)

-- where both are, in the last two rows of the table, by both
by_both : (s u : ℕ) → s ≤ 7 → u ≤ 7 → Same s 1 2 u × Same s 1 3 u
unfolding Same sentences
by_both s u hs hu =
    to7 (λ u. Same s 1 2 u × Same s 1 3 u)
    (to7 (λ s. Same s 1 2 0 × Same s 1 3 0) (refl, refl) (refl, refl) (refl, refl) (refl, refl) (refl, refl) (refl, refl) (refl, refl) (refl, refl) s hs)
    (to7 (λ s. Same s 1 2 1 × Same s 1 3 1) (refl, refl) (refl, refl) (refl, refl) (refl, refl) (refl, refl) (refl, refl) (refl, refl) (refl, refl) s hs)
    (to7 (λ s. Same s 1 2 2 × Same s 1 3 2) (refl, refl) (refl, refl) (refl, refl) (refl, refl) (refl, refl) (refl, refl) (refl, refl) (refl, refl) s hs)
    (to7 (λ s. Same s 1 2 3 × Same s 1 3 3) (refl, refl) (refl, refl) (refl, refl) (refl, refl) (refl, refl) (refl, refl) (refl, refl) (refl, refl) s hs)
    (to7 (λ s. Same s 1 2 4 × Same s 1 3 4) (refl, refl) (refl, refl) (refl, refl) (refl, refl) (refl, refl) (refl, refl) (refl, refl) (refl, refl) s hs)
    (to7 (λ s. Same s 1 2 5 × Same s 1 3 5) (refl, refl) (refl, refl) (refl, refl) (refl, refl) (refl, refl) (refl, refl) (refl, refl) (refl, refl) s hs)
    (to7 (λ s. Same s 1 2 6 × Same s 1 3 6) (refl, refl) (refl, refl) (refl, refl) (refl, refl) (refl, refl) (refl, refl) (refl, refl) (refl, refl) s hs)
    (to7 (λ s. Same s 1 2 7 × Same s 1 3 7) (refl, refl) (refl, refl) (refl, refl) (refl, refl) (refl, refl) (refl, refl) (refl, refl) (refl, refl) s hs)
    u hu

pub same : (s p f u : ℕ) → s ≤ 7 → p ≤ 1 → f ≤ 3 → u ≤ 7 → look table9 s p f u ≡ sentences s p f u
unfolding Same sentences
same s zero zero u hs hp hf hu = by_usage_lem s 0 0 refl refl refl refl refl refl refl refl u hu
same s zero (suc zero) u hs hp hf hu = refl
same s zero (suc (suc zero)) u hs hp hf hu = refl
same s zero (suc (suc (suc zero))) u hs hp hf hu = refl
same s zero (suc (suc (suc (suc f)))) u hs hp hf hu = absurd (omega arith)
same s (suc zero) zero u hs hp hf hu = by_usage_lem s 1 0 refl refl refl refl refl refl refl refl u hu
same s (suc zero) (suc zero) u hs hp hf hu = refl
same s (suc zero) (suc (suc zero)) u hs hp hf hu = (by_both s u hs hu).0
same s (suc zero) (suc (suc (suc zero))) u hs hp hf hu = (by_both s u hs hu).1
same s (suc zero) (suc (suc (suc (suc f)))) u hs hp hf hu = absurd (omega arith)
same s (suc (suc p)) f u hs hp hf hu = absurd (omega arith)

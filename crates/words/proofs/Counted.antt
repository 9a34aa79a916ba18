-- A loop that counts k up to n over pieces of P elements: n - k pieces are left, and they begin at k * P.
-- Assumes nothing.
use mathlib.Core.Path.{◌≡◌}
use Prim.Native.Nat.{ℕ, ◌+◌, ◌-◌, ◌*◌, ◌<◌}
use native.Mathlib.Nat.{zero-mul}
use native.Mathlib.Omega.{arith}

module _ (Q : ℕ → ℕ → Type 0) (n P : ℕ) where
  pub counted_from : Q n 0 → Q (n - 0) (0 * P)
  counted_from q = let all : n - 0 ≡ n = omega arith in rw (all, zero-mul) q

  pub counted_on : (k : ℕ) → k < n → Q (n - k - 1) (k * P + P) → Q (n - (k + 1)) ((k + 1) * P)
  counted_on k h q =
      let left : n - (k + 1) ≡ n - k - 1 = omega arith in
      let at : (k + 1) * P ≡ k * P + P = omega arith in
      rw (left, at) q

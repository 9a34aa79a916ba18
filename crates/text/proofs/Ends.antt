-- Where printing ends.
-- Assumes nothing.
use mathlib.Core.Path.{◌≡◌}
use mathlib.Core.List.{List, [], ◌∷◌, ◌++◌}
use Prim.Native.Nat.{ℕ, ◌+◌, ◌≤◌}
use native.Mathlib.Omega.{arith}
use lib.ListN.{length, length-append}
use Rattle.writing.specs.Laid.{Written}
use Rattle.digits.specs.Digits.{hexadecimal, decimal}
use Rattle.digits.proofs.Digits.{hexadecimal_length, decimal_most}

pub decimal_then_end : (n b : ℕ) {at r : ℕ} {out left : List ℕ} → Written (decimal n ++ (b ∷ [])) at out r left → r ≤ at + 21
decimal_then_end n b w = omega (arith, w.end, decimal_most n, length-append (decimal n) (b ∷ []))

pub hexadecimal_then_end : (k n b : ℕ) {at r : ℕ} {out left : List ℕ} → Written (hexadecimal k n ++ (b ∷ [])) at out r left → r ≡ at + (k + 1)
hexadecimal_then_end k n b w = omega (arith, w.end, hexadecimal_length k n, length-append (hexadecimal k n) (b ∷ []))

pub labelled_end : (w : List ℕ) (n b : ℕ) {at r : ℕ} {out left : List ℕ} → Written (w ++ (decimal n ++ (b ∷ []))) at out r left → r ≤ at + length w + 21
labelled_end w n b p =
    omega (arith, p.end, decimal_most n, length-append w (decimal n ++ (b ∷ [])), length-append (decimal n) (b ∷ []))

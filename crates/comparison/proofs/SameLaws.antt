-- The laws of two lists that are the same: what the test tells, its parts, and std's test.
-- Assumes nothing.
use mathlib.Core.Path.{◌≡◌, refl, ap, ap₂}
use mathlib.Core.Bool.{Bool, true, false, ◌&&◌}
use mathlib.Core.List.{List, [], ◌∷◌, ◌++◌}
use Prim.Native.Nat.{ℕ}
use borrow.Author.Tests.{eq-eqb, eqb-true}
use lib.Dec.{eqb}
use lib.Pointwise.{pointwise}
use Rattle.std.specs.Prelude.{nat_eq}
use lib.ListN.{length, take, drop}
use Rattle.words.proofs.Choice.{never}
use Rattle.comparison.specs.Comparison.{same}

-- ---- what the test tells
pub same_itself : (x : List ℕ) → same x x ≡ true
unfolding same
same_itself [] = refl
same_itself (a ∷ x) = rw (eq-eqb a a refl) (same_itself x)

pub same_is : (x y : List ℕ) → same x y ≡ true → x ≡ y
unfolding same
same_is [] [] e = refl
same_is [] (b ∷ y) e = never e
same_is (a ∷ x) [] e = never e
same_is (a ∷ x) (b ∷ y) e = by (eqb a b) refl e (same_is x y)
  where
    by : (g : Bool) → eqb a b ≡ g → g && same x y ≡ true → (same x y ≡ true → x ≡ y) → a ∷ x ≡ b ∷ y
    by true p q f = ap₂ (λ (u : ℕ) (l : List ℕ). u ∷ l) (eqb-true a b p) (f q)
    by false p q f = never q

-- ---- a list in two parts
pub same_append : (p r y : List ℕ) → same (p ++ r) y ≡ (same p (take (length p) y) && same r (drop (length p) y))
unfolding same
same_append [] r y = refl
same_append (a ∷ p) r [] = refl
same_append (a ∷ p) r (b ∷ y) = by (eqb a b) (same_append p r y)
  where
    by : (g : Bool) → same (p ++ r) y ≡ (same p (take (length p) y) && same r (drop (length p) y))
        → (g && same (p ++ r) y) ≡ ((g && same p (take (length p) y)) && same r (drop (length p) y))
    by true e = e
    by false e = refl

-- ---- std's comparison of two slices
pub pointwise_same : (x y : List ℕ) → pointwise nat_eq x y ≡ same x y
unfolding same
pointwise_same [] [] = refl
pointwise_same [] (b ∷ y) = refl
pointwise_same (a ∷ x) [] = refl
pointwise_same (a ∷ x) (b ∷ y) = ap (λ (g : Bool). eqb a b && g) (pointwise_same x y)

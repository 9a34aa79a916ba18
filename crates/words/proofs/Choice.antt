-- Tests: what a true or a false one tells, and a choice by one.
-- Assumes nothing.
use mathlib.Core.Path.{◌≡◌, refl, sym, ap, ◌∙◌}
use mathlib.Core.Logic.{◌↔◌}
use mathlib.Core.Bool.{Bool, true, false, not, ◌&&◌, ◌||◌, cond, true≢false, false≢true}
use Prim.Native.Nat.{ℕ}
use borrow.Author.Tests.{eq-eqb, not-false}
use lib.Dec.{T, eqb, eqb→eq, eqb_refl}

pub never : {A : Type 0} → false ≡ true → A
never e = absurd (false≢true e)

pub or_none : (a b : Bool) → (a || b ≡ false) ↔ ((a ≡ false) × (b ≡ false))
or_none true b = (λ e. (e, absurd (true≢false e)), λ two. two.0)
or_none false b = (λ e. (refl, e), λ two. two.1)

-- a test that is only made where `on`, of numbers that are the same there
pub unwrong : (on : Bool) (x y : ℕ) → (on ≡ true → x ≡ y) → on && not (eqb x y) ≡ false
unwrong true x y f = rw (eq-eqb x y (f refl))
unwrong false x y f = refl

pub and_true : (a b : Bool) → T a → T b → T (a && b)
and_true true b p q = q
and_true false b p q = p

pub and_left : (a b : Bool) → T (a && b) → T a
and_left true b t = tt
and_left false b t = t

pub and_right : (a b : Bool) → T (a && b) → T b
and_right true b t = t
and_right false b t = absurd t

pub and_assoc : (a b c : Bool) → ((a && b) && c) ≡ (a && (b && c))
and_assoc true b c = refl
and_assoc false b c = refl

pub or_assoc : (a b c : Bool) → ((a || b) || c) ≡ (a || (b || c))
or_assoc true b c = refl
or_assoc false b c = refl

pub or_false : (a : Bool) → (a || false) ≡ a
or_false true = refl
or_false false = refl

pub same : (a b : ℕ) → a ≡ b → T (eqb a b)
same a b e = rw e (eqb_refl b)

pub is_true : (b : Bool) → T b → b ≡ true
is_true true t = refl
is_true false t = absurd t

-- two tests that were asked at once
pub equal : (a x b y : ℕ) (r : Bool) → r ≡ (eqb a x && eqb b y) → not r ≡ false → (a ≡ x) × (b ≡ y)
equal a x b y r e n =
    let t : T (eqb a x && eqb b y) = rw (← e, not-false r n) tt in
    (eqb→eq a x (and_left (eqb a x) (eqb b y) t), eqb→eq b y (and_right (eqb a x) (eqb b y) t))

pub unequal : (a x b y : ℕ) (r : Bool) → r ≡ (eqb a x && eqb b y) → not r ≡ true → a ≡ x → b ≡ y → ⊥
unequal a x b y r e n p q =
    let all : r ≡ true = e ∙ is_true _ (and_true (eqb a x) (eqb b y) (same a x p) (same b y q)) in
    true≢false (sym n ∙ ap not all)

module _ {A : Type 0} (b : Bool) (x y : A) where
  pub chosen : T b → cond b x y ≡ x
  chosen = elim b as (λ c. T c → cond c x y ≡ x) [ true ↦ λ t. refl | false ↦ λ t. absurd t ]

  pub not_chosen : (T b → ⊥) → cond b x y ≡ y
  not_chosen = elim b as (λ c. (T c → ⊥) → cond c x y ≡ y) [ true ↦ λ n. absurd (n tt) | false ↦ λ n. refl ]

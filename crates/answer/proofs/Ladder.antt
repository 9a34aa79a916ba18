-- A ladder of rules: the first that refuses answers, and below those that do not the others go on.
-- Assumes nothing.
use mathlib.Core.Path.{◌≡◌, refl, sym, ap, ◌∙◌}
use mathlib.Core.Logic.{◌↔◌, ◌⊎◌, inl, inr, ⊎_elim}
use mathlib.Core.Bool.{Bool, true, false, not, ◌&&◌, cond, true≢false}
use lib.Dec.{T}
use Rattle.std.specs.Prelude.{Ok, Err}
use Rattle.answer.specs.Answer.{Answer, good, refused, is_good, or_else, refused_if}
use Rattle.answer.specs.declared.Refusal.{Refusal}
use Rattle.answer.specs.declared.Refusal.TheVariants.{Wrong, BlockDiffers, Refused}
use Rattle.answer.specs.declared.Reason.{Reason}

-- an answer is the good one, or no good one
pub good_or : (a : Answer) → (a ≡ good) ⊎ (is_good a ≡ false)
good_or (Ok u) = inl refl
good_or (Err (Wrong f a p)) = inr refl
good_or (Err (BlockDiffers a)) = inr refl
good_or (Err (Refused r)) = inr refl

pub not_both : (a : Answer) → a ≡ good → is_good a ≡ false → ⊥
not_both a g w = true≢false (sym (ap is_good g) ∙ w)

pub good_is : (a : Answer) → is_good a ≡ true → a ≡ good
good_is a g = ⊎_elim (λ e. e) (λ w. absurd (true≢false (sym g ∙ w))) (good_or a)

pub or_else_good : (a b : Answer) → (or_else a b ≡ good) ↔ ((a ≡ good) × (b ≡ good))
or_else_good a b =
    ⊎_elim
    (λ g. rw g (λ e. (refl, e), λ two. two.1))
    (λ w. rw w (λ e. absurd (not_both a e w), λ two. two.0))
    (good_or a)

pub or_else_none : (a : Answer) → or_else a good ≡ a
or_else_none (Ok u) = refl
or_else_none (Err (Wrong f a p)) = refl
or_else_none (Err (BlockDiffers a)) = refl
or_else_none (Err (Refused r)) = refl

pub or_else_assoc : (a b c : Answer) → or_else a (or_else b c) ≡ or_else (or_else a b) c
or_else_assoc (Ok u) b c = refl
or_else_assoc (Err (Wrong f a p)) b c = refl
or_else_assoc (Err (BlockDiffers a)) b c = refl
or_else_assoc (Err (Refused r)) b c = refl

-- a rule whose refusal `?` hands on
module _ (rule rest : Answer) where
  pub hands_on : (e : Refusal) → Err e ≡ rule → Err e ≡ or_else rule rest
  hands_on e h = rw (← h) refl

  pub goes_past : good ≡ rule → or_else rule rest ≡ rest
  goes_past h = rw (← h) refl

-- a good answer of a ladder is good at every rung
pub both_good : (a b : Answer) → is_good (or_else a b) ≡ true → (is_good a ≡ true) × (is_good b ≡ true)
both_good a b e = by (is_good a) refl e
  where
    by : (g : Bool) → is_good a ≡ g → is_good (cond g b a) ≡ true → (is_good a ≡ true) × (is_good b ≡ true)
    by true p q = (p, q)
    by false p q = (q, absurd (true≢false (sym q ∙ p)))

-- whether it is good, as a test
pub good_of_both : (a b : Answer) → is_good (or_else a b) ≡ (is_good a && is_good b)
good_of_both a b = by (is_good a) refl
  where
    by : (g : Bool) → is_good a ≡ g → is_good (cond g b a) ≡ (g && is_good b)
    by true e = refl
    by false e = e

-- a rule that does not refuse
pub not_refused : (b : Bool) (r : Reason) → is_good (refused_if b r) ≡ true → b ≡ false
not_refused true r e = absurd (true≢false (sym e))
not_refused false r e = refl

-- a rule that demands something
pub met : (b : Bool) (r : Reason) → T b → refused_if (not b) r ≡ good
met true r t = refl
met false r t = absurd t

pub unmet : (b : Bool) (r : Reason) → (T b → ⊥) → refused_if (not b) r ≡ refused r
unmet true r n = absurd (n tt)
unmet false r n = refl

-- One interval: each answer is given exactly when its field is the first wrong one.
-- Assumes nothing.
use mathlib.Core.Path.{◌≡◌, refl, ap}
use mathlib.Core.Bool.{Bool, true, false, not, ◌&&◌, cond, true≢false}
use mathlib.Core.List.{List}
use Prim.Native.Nat.{ℕ}
use lib.Dec.{eqb}
use borrow.Author.Tests.{eqb-false}
use Rattle.words.proofs.Choice.{never}
use Rattle.answer.specs.Answer as answers
use Rattle.answer.specs.Answer.{Answer, number_of}
use Rattle.answer.specs.declared.Field.TheVariants as fields
use Rattle.interval.specs.declared.Rules.{Rules}
use Rattle.interval.specs.declared.Place.{Place}
use Rattle.interval.specs.Verdict.{Verdict}
use Rattle.interval.specs.Interval.{guard_wrong, application_wrong, reference_wrong, judge_pieces}

-- ---- a field that is checked, and one that is not
pub checked : (on : Bool) (x y a b : ℕ) → on ≡ true → x ≡ a → y ≡ b → not (eqb x y) ≡ on && not (eqb a b)
checked on x y a b o p q = rw (o, p, q) refl

-- ---- three tests in order

-- "in one interval guard, application, reference": what is answered where these are wrong
abbrev pub in_turn : Place → Bool → Bool → Bool → Answer
in_turn p g a f =
    cond g (answers.wrong fields.Guard p.address p.interval)
    (cond a (answers.wrong fields.Application p.address p.interval) (cond f (answers.wrong fields.Reference p.address p.interval) answers.good))

-- answers with different numbers are different
apart : {G : Type 0} (m n : Answer) → eqb (number_of m) (number_of n) ≡ false → m ≡ n → G
apart m n d e = absurd (eqb-false (number_of m) (number_of n) d (ap number_of e))

not_true : {G : Type 0} → true ≡ false → G
not_true t = absurd (true≢false t)

in_order : (g a f : Bool) (x y : ℕ)
    → Verdict g a f x y (cond g (answers.wrong fields.Guard x y) (cond a (answers.wrong fields.Application x y) (cond f (answers.wrong fields.Reference x y) answers.good)))
in_order true a f x y =
    record {
      guard = (λ e. refl, λ t. refl);
      application = (apart _ _ refl, λ t. not_true t.0);
      reference = (apart _ _ refl, λ t. not_true t.0);
      good = (apart _ _ refl, λ t. not_true t.0);
    }
in_order false true f x y =
    record {
      guard = (apart _ _ refl, never);
      application = (λ e. (refl, refl), λ t. refl);
      reference = (apart _ _ refl, λ t. not_true t.1);
      good = (apart _ _ refl, λ t. not_true t.1);
    }
in_order false false true x y =
    record {
      guard = (apart _ _ refl, never);
      application = (apart _ _ refl, λ t. never t.1);
      reference = (λ e. (refl, refl, refl), λ t. refl);
      good = (apart _ _ refl, λ t. not_true t.2);
    }
in_order false false false x y =
    record {
      guard = (apart _ _ refl, never);
      application = (apart _ _ refl, λ t. never t.1);
      reference = (apart _ _ refl, λ t. never t.2);
      good = (λ e. (refl, refl, refl), λ t. refl);
    }

module _ (r : Rules) (p : Place) (d f : List ℕ) where
  pub pieces_verdict : Verdict (guard_wrong r d f) (application_wrong r f) (reference_wrong r p f) p.address p.interval (judge_pieces r p d f)
  unfolding judge_pieces
  pieces_verdict = in_order (guard_wrong r d f) (application_wrong r f) (reference_wrong r p f) p.address p.interval

-- `scrub::Asked::wrong_pieces`: where the guard is checked and the application tag is not, the guard and the reference tag decide.
use Rattle.std.proofs.Common.{◌≡◌, ℕ, Bool, true, false, not, ◌&&◌, ◌||◌, eqb, nat_eq, List, refl, sym, ap, ◌∙◌, true≢false}
use borrow.Author.Tests.{eq-eqb, ne_eqb}
use Rattle.guard.specs.Guard.{guard}
use Rattle.field.specs.Field.{stored_guard}
use Rattle.answer.specs.Answer.{is_good}
use Rattle.segment.specs.declared.Description.{Description}
use Rattle.interval.specs.declared.Rules.{Rules}
use Rattle.interval.specs.declared.Place.{Place}
use Rattle.interval.specs.Interval.{guard_wrong, application_wrong, reference_wrong, judge_pieces}
use Rattle.interval.proofs.PieceLaws.{in_turn}
use Rattle.scrub.specs.Onward.{AsListed}
use Rattle.scrub.proofs.Judging.{guard_asked, application_not}
use Rattle.scrub.proofs.Asked.wrong_pieces.Goals as goal

decides : (p : Place) (g a x y z : Bool) → g ≡ true → a ≡ false → not (is_good (in_turn p (g && x) (a && y) z)) ≡ x || z
decides p false a x y z e o = absurd (true≢false (sym e))
decides p true true x y z e o = absurd (true≢false o)
decides p true false true y z e o = refl
decides p true false false y true e o = refl
decides p true false false y false e o = refl

module _ {r : Rules} {d : Description} (l : AsListed r d) (p : Place) (s f : List ℕ) where
  abbrev wrong : Bool
  wrong = not (is_good (judge_pieces r p s f))

  by_both : wrong ≡ not (eqb (stored_guard f) (guard s)) || reference_wrong r p f
  unfolding judge_pieces guard_wrong application_wrong
  by_both =
      decides p r.guard r.application _ _ _ (ap (λ (x : Rules). x.guard) l.rules ∙ guard_asked d) (ap (λ (x : Rules). x.application) l.rules ∙ application_not d)

  module _ {x y : ℕ} (ex : x ≡ stored_guard f) (ey : y ≡ guard s) where
    by_guard : (x ≡ y → ⊥) → not (nat_eq x y) ≡ wrong
    by_guard n = ap not (ne_eqb x y n) ∙ sym (by_both ∙ rw (ne_eqb (stored_guard f) (guard s) (λ e. n (ex ∙ e ∙ sym ey))) refl)

    by_reference : {b : Bool} → x ≡ y → b ≡ reference_wrong r p f → b ≡ wrong
    by_reference e eb = eb ∙ sym (by_both ∙ rw (eq-eqb (stored_guard f) (guard s) (sym ex ∙ e ∙ ey)) refl)

pub returns-then-stored_guard-guard : goal.returns-then-stored_guard-guard
returns-then-stored_guard-guard c =
    by_guard c.args.self.as_listed _ _ _ c.stored_guard.ensures c.guard.ensures c.if-stored_guard-guard.true

pub returns-else-stored_guard-guard : goal.returns-else-stored_guard-guard
returns-else-stored_guard-guard c =
    by_reference c.args.self.as_listed _ _ _ c.stored_guard.ensures c.guard.ensures c.if-stored_guard-guard.false c.reference_wrong.ensures

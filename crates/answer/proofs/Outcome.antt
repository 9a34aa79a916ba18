-- Outcomes: what a refusal leaves, and what a good answer leaves.
-- Assumes nothing.
use mathlib.Core.Path.{◌≡◌, refl, ap, ◌∙◌}
use mathlib.Core.Bool.{Bool, true, false, cond}
use Rattle.std.specs.Prelude.{Err}
use Rattle.answer.specs.Answer.{Answer, good, refused, is_good}
use Rattle.answer.specs.Outcome.{Outcome, outcome, leaving}
use Rattle.answer.specs.declared.Reason.{Reason}
use Rattle.answer.specs.declared.Refusal.{Refusal}
use Rattle.answer.proofs.Ladder.{good_is}

module _ {L : Type 0} (rule : Answer) (old new : L) where
  pub refuses : {r : Reason} → rule ≡ refused r → outcome (refused r) old ≡ leaving rule old new
  refuses e = rw e

  pub refuses_with : (e : Refusal) → Err e ≡ rule → outcome (Err e) old ≡ leaving rule old new
  refuses_with e h = rw (← h) refl

  pub leaves : {l : L} → rule ≡ good → l ≡ new → outcome good l ≡ leaving rule old new
  leaves e m = rw (e, m)

  pub keeps : {a : Answer} {l : L} → outcome a l ≡ leaving rule old new → (a ≡ good → ⊥) → l ≡ old
  keeps {a} {l} e n = by (is_good rule) refl
    where
      by : (g : Bool) → is_good rule ≡ g → l ≡ old
      by true w = absurd (n (ap (λ (o : Outcome L). o.answer) e ∙ good_is rule w))
      by false w = ap (λ (o : Outcome L). o.left) e ∙ ap (λ (g : Bool). cond g new old) w

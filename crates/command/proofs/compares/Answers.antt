-- `command::compares`: the operation, and of a VERIFY its bits.
use mathlib.Core.Path.{◌≡◌, refl, sym, ap, ◌∙◌}
use mathlib.Core.Bool.{Bool, true, false}
use mathlib.Core.Logic.{◌⊎◌, inl, inr}
use Rattle.command.specs.declared.Operation.{Operation}
use Rattle.command.specs.declared.Operation.TheVariants.{Read, Write, Verify}
use Rattle.command.specs.Compares.{is_verify, compares}
use Rattle.command.proofs.compares.Goals as goal
use Rattle.command.proofs.compares.Goals.{in-Verify, in_default}

other : (o : Operation) → (o ≡ Verify → ⊥) → is_verify o ≡ false
other Read n = refl
other Write n = refl
other Verify n = absurd (n refl)

told : (o : Operation) (m : Bool) → (o ≡ Verify) × (m ≡ true) ⊎ (o ≡ Verify → ⊥) × (m ≡ false) → m ≡ is_verify o
told o m (inl w) = w.1 ∙ sym (ap is_verify w.0)
told o m (inr w) = w.1 ∙ sym (other o w.0)

pub returns-then-matches : goal.returns-then-matches
unfolding compares
returns-then-matches c =
    let verify = told c.args.c.operation _ (elim c.match-matches.branch [ in-Verify w ↦ inl (w.in-Verify.is, w.matches-is) | in_default w ↦ inr (w.in_default.not-Verify, w.matches-is) ]) in
    rw (sym verify ∙ c.if-matches.true) refl

pub returns-else-matches : goal.returns-else-matches
unfolding compares
returns-else-matches c =
    let verify = told c.args.c.operation _ (elim c.match-matches.branch [ in-Verify w ↦ inl (w.in-Verify.is, w.matches-is) | in_default w ↦ inr (w.in_default.not-Verify, w.matches-is) ]) in
    rw (sym verify, c.if-matches.false) refl

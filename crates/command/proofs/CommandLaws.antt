-- What it tells that a command compares, or does not.
-- Assumes nothing.
use mathlib.Core.Path.{◌≡◌, refl, ap}
use mathlib.Core.Bool.{Bool, true, false, ◌&&◌, false≢true}
use borrow.Author.Tests.{eq-eqb, eqb-true}
use lib.Dec.{eqb}
use Rattle.command.specs.declared.Operation.{Operation}
use Rattle.command.specs.declared.Operation.TheVariants.{Read, Write, Verify}
use Rattle.command.specs.declared.Command.{Command}
use Rattle.command.specs.Compares.{is_verify, compares}

pub not_verify : (c : Command) → is_verify c.operation ≡ false → compares c ≡ false
unfolding compares
not_verify c e = rw e

pub other_bits : (c : Command) → (c.check ≡ 0b01 → ⊥) → compares c ≡ false
unfolding compares
other_bits c n = by (is_verify c.operation) (eqb c.check 0b01) refl
  where
    by : (v g : Bool) → eqb c.check 0b01 ≡ g → (v && g) ≡ false
    by true true e = absurd (n (eqb-true c.check 0b01 e))
    by true false e = refl
    by false g e = refl

pub verify_is : (o : Operation) → is_verify o ≡ true → o ≡ Verify
verify_is Read e = absurd (false≢true e)
verify_is Write e = absurd (false≢true e)
verify_is Verify e = refl

-- a command that compares is a VERIFY with the bits 01b
pub record Comparing (c : Command) : Type 0 where
  pub verify : c.operation ≡ Verify
  pub bits : c.check ≡ 0b01

pub comparing : (c : Command) → compares c ≡ true → Comparing c
unfolding compares
comparing c e = by (is_verify c.operation) refl (eqb c.check 0b01) refl e
  where
    by : (v : Bool) → is_verify c.operation ≡ v → (g : Bool) → eqb c.check 0b01 ≡ g → (v && g) ≡ true → Comparing c
    by true v true g e = record { verify = verify_is c.operation v; bits = eqb-true c.check 0b01 g }
    by true v false g e = absurd (false≢true e)
    by false v g f e = absurd (false≢true e)

pub both_compare : (c : Command) → c.operation ≡ Verify → c.check ≡ 0b01 → compares c ≡ true
unfolding compares
both_compare c v e = rw (ap is_verify v, eq-eqb c.check 0b01 e)

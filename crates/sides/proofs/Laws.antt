-- What is checked, from the facts that decide it.
-- Assumes nothing.
use mathlib.Core.Path.{◌≡◌, refl}
use mathlib.Core.Bool.{Bool, true, false, not, ◌&&◌, cond}
use Prim.Native.Nat.{ℕ}
use borrow.Author.Tests.{eq-eqb, ne_eqb, eqb-false}
use lib.Dec.{eqb}
use Rattle.words.proofs.Choice.{never}
use Rattle.segment.specs.declared.Description.{Description}
use Rattle.command.specs.declared.Command.{Command}
use Rattle.command.specs.declared.Operation.{Operation}
use Rattle.command.specs.declared.Operation.TheVariants.{Read, Write, Verify}
use Rattle.command.specs.Compares.{compares}
use Rattle.sides.specs.declared.Side.{Side}
use Rattle.sides.specs.declared.Side.TheVariants.{Sent, Stored}
use Rattle.sides.specs.Sides.{checks_as_write, checks_on, checked_on}

abbrev is_stored : Side → Bool
is_stored Sent = false
is_stored Stored = true

-- a READ, or a VERIFY that does not compare, checks what is stored, and nothing that is sent
pub stored_all : (o : Operation) (c : Command) → (o ≡ Write → ⊥) → compares c ≡ false → checks_on Stored o c ≡ true
stored_all Read c n e = refl
stored_all Write c n e = absurd (n refl)
stored_all Verify c n e = rw e

pub sent_none : (o : Operation) (c : Command) → (o ≡ Write → ⊥) → compares c ≡ false → checks_on Sent o c ≡ false
sent_none Read c n e = refl
sent_none Write c n e = absurd (n refl)
sent_none Verify c n e = rw e

-- a VERIFY that checks as a WRITE
pub record AsWrite (c : Command) : Type 0 where
  pub comparing : compares c ≡ true
  pub fields : c.code ≡ 0 → ⊥

pub as_write_lem : (c : Command) → checks_as_write c ≡ true → AsWrite c
as_write_lem c e = by (compares c) refl (eqb c.code 0) refl e
  where
    by : (g : Bool) → compares c ≡ g → (z : Bool) → eqb c.code 0 ≡ z → (g && not z) ≡ true → AsWrite c
    by true g true z e = never e
    by true g false z e = record { comparing = g; fields = eqb-false c.code 0 z }
    by false g z f e = never e

-- a VERIFY checks what is stored with 000, whether it compares or not; one that compares checks what is sent with another code
pub verify_of_user_data : (side : Side) (c : Command) → c.code ≡ 0 → checks_on side Verify c ≡ is_stored side
verify_of_user_data side c z = by side
  where
    neither : (g : Bool) → (g && not (eqb c.code 0)) ≡ false
    neither true = rw (eq-eqb c.code 0 z)
    neither false = refl

    by : (side : Side) → checks_on side Verify c ≡ is_stored side
    by Sent = neither (compares c)
    by Stored = rw (neither (compares c))

pub verify_of_whole_blocks : (side : Side) (c : Command) → compares c ≡ true → (c.code ≡ 0 → ⊥) → checks_on side Verify c ≡ not (is_stored side)
verify_of_whole_blocks Sent c e n = rw (e, ne_eqb c.code 0 n)
verify_of_whole_blocks Stored c e n = rw (e, ne_eqb c.code 0 n)

-- a side that is checked is checked over all of the transfer's blocks
module _ (side : Side) (d : Description) (c : Command) where
  pub record Checks : Type 0 where
    pub fields : d.kind ≡ 0 → ⊥
    pub checks : checks_on side c.operation c ≡ true
    pub all : checked_on side d c ≡ c.length

  pub checks_all : (checked_on side d c ≡ 0 → ⊥) → Checks
  unfolding checked_on
  checks_all n = by (eqb d.kind 0) refl (checks_on side c.operation c) refl
    where
      by : (k : Bool) → eqb d.kind 0 ≡ k → (b : Bool) → checks_on side c.operation c ≡ b → Checks
      by true k b e = absurd (n (rw k))
      by false k true e = record { fields = eqb-false d.kind 0 k; checks = e; all = rw (k, e) }
      by false k false e = absurd (n (rw (k, e)))

  pub checked_plain : d.kind ≡ 0 → checked_on side d c ≡ 0
  unfolding checked_on
  checked_plain k = rw (eq-eqb d.kind 0 k)

  pub checked_all : (d.kind ≡ 0 → ⊥) → checks_on side c.operation c ≡ true → checked_on side d c ≡ c.length
  unfolding checked_on
  checked_all n e = rw (ne_eqb d.kind 0 n, e)

  pub checked_none : checks_on side c.operation c ≡ false → checked_on side d c ≡ 0
  unfolding checked_on
  checked_none e = rw e (by (eqb d.kind 0))
    where
      by : (k : Bool) → ◌≡◌ {A = ℕ} (cond k 0 0) 0
      by true = refl
      by false = refl

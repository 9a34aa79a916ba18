-- Each rule on a command's fields from the facts that decide it.
-- Assumes nothing.
use mathlib.Core.Path.{◌≡◌, refl, sym, ap}
use mathlib.Core.Bool.{Bool, true, false, not, ◌&&◌}
use Prim.Native.Nat.{ℕ, ◌*◌, ◌≤◌}
use native.Mathlib.Nat.{mul-le-mul}
use native.Mathlib.Omega.{arith}
use borrow.Author.Tests.{eq-eqb, ne_eqb, eqb-true}
use lib.Dec.{eqb, ltb}
use Rattle.answer.specs.Answer.{Answer, good, refused, is_good, or_else, refused_if}
use Rattle.answer.specs.declared.Reason.TheVariants as reasons
use Rattle.segment.specs.declared.Description.{Description}
use Rattle.segment.specs.Segment.{IsSegment, stored_of}
use Rattle.segment.specs.Places.{range_rule}
use Rattle.segment.proofs.Laws.{sizes}
use Rattle.segment.proofs.Places.{range_facts}
use Rattle.command.specs.declared.Command.{Command}
use Rattle.command.specs.Tags.{long}
use Rattle.command.specs.Compares.{is_verify, compares}
use Rattle.command.proofs.CommandLaws.{comparing}
use Rattle.refusal.specs.declared.Lengths.{Lengths}
use Rattle.refusal.specs.Refusal.{long_rule, other_rule, plain_rule, type_rules, moved_of, size_rule, buffer_of, buffer_rule}

module _ (d : Description) (c : Command) where
  -- ---- the type rules
  pub long_any : long c ≡ true → refused_if (not (eqb d.kind 2)) reasons.OperationInvalid ≡ type_rules d c
  unfolding type_rules long_rule other_rule plain_rule
  long_any l = rw l (by (eqb d.kind 2) refl)
    where
      by : (two : Bool) → eqb d.kind 2 ≡ two
          → refused_if (not two) reasons.OperationInvalid ≡ or_else (refused_if (not two) reasons.OperationInvalid) (refused_if (eqb d.kind 0 && not (eqb c.code 0)) reasons.FieldInvalid)
      by true e = rw (eqb-true d.kind 2 e) refl
      by false e = refl

  pub short_two : long c ≡ false → d.kind ≡ 2 → (c.code ≡ 0 → ⊥) → type_rules d c ≡ (refused reasons.OperationInvalid)
  unfolding type_rules long_rule other_rule plain_rule
  short_two l k n = rw (l, k, ne_eqb c.code 0 n)

  pub short_zero : long c ≡ false → c.code ≡ 0 → type_rules d c ≡ good
  unfolding type_rules long_rule other_rule plain_rule
  short_zero l z = rw (l, eq-eqb c.code 0 z) (none (eqb d.kind 2) (eqb d.kind 0))
    where
      none : (a b : Bool) → or_else (refused_if (a && false) reasons.OperationInvalid) (refused_if (b && false) reasons.FieldInvalid) ≡ good
      none true true = refl
      none true false = refl
      none false true = refl
      none false false = refl

  pub short_other : long c ≡ false → (d.kind ≡ 2 → ⊥) → (c.code ≡ 0 → ⊥) → refused_if (eqb d.kind 0) reasons.FieldInvalid ≡ type_rules d c
  unfolding type_rules long_rule other_rule plain_rule
  short_other l k n = rw (l, ne_eqb d.kind 2 k, ne_eqb c.code 0 n) (by (eqb d.kind 0))
    where
      by : (plain : Bool) → refused_if plain reasons.FieldInvalid ≡ refused_if (plain && true) reasons.FieldInvalid
      by true = refl
      by false = refl

  -- ---- the bytes moved
  pub moved_plain : c.code ≡ 0 → moved_of d c ≡ c.length * d.block
  unfolding moved_of
  moved_plain z = rw (eq-eqb c.code 0 z)

  pub moved_whole : (c.code ≡ 0 → ⊥) → moved_of d c ≡ c.length * stored_of d
  unfolding moved_of
  moved_whole n = rw (ne_eqb c.code 0 n)

  pub moved_most : IsSegment d → c.length ≤ 65536 → (c.length * d.block ≤ 65536 * 4096) × (c.length * stored_of d ≤ 65536 * 4160)
  moved_most s h = (mul-le-mul h s.most, mul-le-mul h (sizes d s).stored_most)

  pub size_told : (n : ℕ) (a : Answer) → a ≡ refused_if (ltb 4294967295 n) reasons.TransferTooLarge → n ≡ moved_of d c → a ≡ size_rule d c
  unfolding size_rule
  size_told n a e m = rw m at e

  -- ---- the buffer
  pub room_verify : is_verify c.operation ≡ true → compares c ≡ false → buffer_of d c ≡ 0
  unfolding buffer_of
  room_verify v e = rw (v, e)

  pub room_moved : is_verify c.operation ≡ false → buffer_of d c ≡ moved_of d c
  unfolding buffer_of
  room_moved v = rw v

  pub room_compared : compares c ≡ true → buffer_of d c ≡ moved_of d c
  unfolding buffer_of
  room_compared e = rw (e, ap is_verify (comparing c e).verify)

  pub buffer_told : (n : ℕ) (a : Answer) (l : Lengths) → a ≡ refused_if (not (eqb l.buffer n)) reasons.BufferLengthWrong → n ≡ buffer_of d c → a ≡ buffer_rule d c l
  unfolding buffer_rule
  buffer_told n a l e m = rw m at e

  -- ---- past the address the length is small
  pub short : IsSegment d → good ≡ range_rule d c.address c.length → c.length ≤ 65536
  short s e = let r = range_facts d c.address c.length (ap is_good (sym e)) in omega (arith, s.count)

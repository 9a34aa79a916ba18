-- A command that does not compare, as every READ, every WRITE and every VERIFY with other bits than 01b, is answered as before A1: the
-- answer with its numbers, and every lent byte.
-- Assumes nothing.
use Rattle.std.specs.Prelude.{Ok, Err}
use mathlib.Core.Path.{◌≡◌, refl, sym, ap, ◌∙◌}
use mathlib.Core.Bool.{Bool, true, false, not, ◌&&◌, cond, true≢false}
use mathlib.Core.List.{List}
use Prim.Native.Nat.{ℕ, zero, suc}
use native.Mathlib.Omega.{arith}
use borrow.Author.Tests.{lt-ltb}
use lib.Dec.{eqb, ltb, eqb-suc-zero}
use lib.ListN.{length}
use Rattle.answer.specs.Answer.{is_good, or_else, refused_if, Answer}
use Rattle.answer.specs.Outcome.{outcome}
use Rattle.answer.specs.declared.Reason.TheVariants as reasons
use Rattle.answer.proofs.Ladder.{or_else_none}
use Rattle.segment.specs.declared.Description.{Description}
use Rattle.segment.specs.Rules.{segment_rules}
use Rattle.command.specs.declared.Command.{Command}
use Rattle.command.specs.declared.Operation.{Operation}
use Rattle.command.specs.declared.Operation.TheVariants.{Read, Write, Verify}
use Rattle.command.specs.Compares.{is_verify, compares}
use Rattle.command.proofs.CommandLaws.{other_bits, both_compare}
use Rattle.decoding.specs.Commands.{decode, Decoded}
use Rattle.decoding.proofs.Demands.{verify_alone_has_bits}
use Rattle.sides.specs.declared.Side.{Side}
use Rattle.sides.specs.declared.Side.TheVariants.{Sent, Stored}
use Rattle.sides.specs.Sides.{checks_on, checked_on}
use Rattle.refusal.specs.Refusal.{check_rule, moved_of, buffer_of, buffer_rule, refusal}
use Rattle.admission.specs.Admission.{behind, admit_decoded, admitted}
use Rattle.transfer.specs.Transfer.{judged_on, judged, verdict}
use Rattle.transfer.proofs.Comparing.{compared_none}
use Rattle.execute.specs.Lent.{Lent, lengths_of}
use Rattle.execute.specs.Execute.{under_check, performed, executed_as, executed}
use Rattle.demands.specs.BeforeA1 as former

module _ (d : Description) (c : Command) (n : c.check ≡ 0b01 → ⊥) where
  off : compares c ≡ false
  off = other_bits c n

  -- ---- the rules on its fields
  above : (b : ℕ) → (b ≡ 0b01 → ⊥) → ltb 0b01 b ≡ not (eqb b 0)
  above zero n = refl
  above (suc zero) n = absurd (n refl)
  above (suc (suc b)) n = lt-ltb 1 (suc (suc b)) (omega arith) ∙ sym (ap not (eqb-suc-zero (suc b)))

  check_before : check_rule c ≡ former.check_rule c
  unfolding check_rule former.check_rule
  check_before = ap (λ (b : Bool). refused_if b reasons.FieldInvalid) (above c.check n)

  buffer_before : buffer_of d c ≡ former.buffer_of d c
  unfolding buffer_of former.buffer_of
  buffer_before = rw off (by (is_verify c.operation))
    where
      by : (v : Bool) → cond (v && true) 0 (moved_of d c) ≡ cond v 0 (moved_of d c)
      by true = refl
      by false = refl

  refusal_before : (l : Lent) → refusal d c (lengths_of l) ≡ former.refusal d c (length l.buffer)
  unfolding refusal buffer_rule former.refusal
  refusal_before l = rw (check_before, buffer_before) refl

  -- ---- what is judged
  checks_before : (side : Side) (o : Operation) → checks_on side o c ≡ former.checks_on side o c
  checks_before Sent Read = refl
  checks_before Sent Write = refl
  checks_before Sent Verify = rw off
  checks_before Stored Read = refl
  checks_before Stored Write = refl
  checks_before Stored Verify = rw off

  judged_before : (side : Side) (l : Lent) → judged_on side d c (under_check side d c l) ≡ former.judged_on side d c l
  unfolding judged_on checked_on former.judged_on former.checked_on
  judged_before side l = rw (checks_before side c.operation) refl

  performed_before : (l : Lent) → performed d c l ≡ former.performed d c l
  unfolding performed verdict judged former.performed
  performed_before l =
      rw (compared_none d c _ _ off, or_else_none (or_else (judged_on Sent d c (under_check Sent d c l)) (judged_on Stored d c (under_check Stored d c l))), judged_before Sent l, judged_before Stored l)
      refl

  served_before : (l : Lent) → executed_as (admit_decoded d (Ok c) (lengths_of l)) d l ≡ former.executed_as d (Ok c) l
  served_before l = rw (refusal_before l) (by (former.refusal d c (length l.buffer)))
    where
      by : (a : Answer) → executed_as (behind a (Ok c)) d l ≡ cond (is_good a) (former.performed d c l) (outcome a l)
      by (Ok u) = performed_before l
      by (Err e) = refl

-- ---- every command
decoded_before : (d : Description) (r : Decoded) (l : Lent) → ((c : Command) → r ≡ Ok c → c.check ≡ 0b01 → ⊥)
    → executed_as (admit_decoded d r (lengths_of l)) d l ≡ former.executed_as d r l
decoded_before d (Ok c) l n = served_before d c (n c refl) l
decoded_before d (Err r) l n = refl

-- a command that does not compare has other bits than 01b
not_comparing : (command : List ℕ) (c : Command) → decode command ≡ Ok c → compares c ≡ false → c.check ≡ 0b01 → ⊥
not_comparing command c served off bits = by c.operation refl
  where
    none : (c.operation ≡ Verify → ⊥) → ⊥
    none n = let zeroth : c.check ≡ 0 = verify_alone_has_bits command c served n in omega (arith, zeroth, bits)

    by : (o : Operation) → c.operation ≡ o → ⊥
    by Read e = none (λ v. let z : ◌≡◌ {A = ℕ} 0 1 = cc in omega arith)
    by Write e = none (λ v. let z : ◌≡◌ {A = ℕ} 0 1 = cc in omega arith)
    by Verify e = true≢false (sym (both_compare c e bits) ∙ off)

-- every command that does not compare, whatever its bits are ("values 10b and 11b stay at 6"), is answered as before
pub as_before : (d : Description) (command : List ℕ) (l : Lent) → ((c : Command) → decode command ≡ Ok c → compares c ≡ false)
    → executed d command l ≡ former.executed d command l
unfolding executed admitted former.executed
as_before d command l off = by (segment_rules d (length l.segment))
  where
    by : (a : Answer) → executed_as (behind a (admit_decoded d (decode command) (lengths_of l))) d l
        ≡ cond (is_good a) (former.executed_as d (decode command) l) (outcome a l)
    by (Ok u) = decoded_before d (decode command) l (λ c served. not_comparing command c served (off c served))
    by (Err e) = refl

-- What admission has settled of a command that goes on.
-- Assumes nothing.
use mathlib.Core.Path.{◌≡◌, refl, ap}
use mathlib.Core.Bool.{true, not, ◌&&◌}
use mathlib.Core.List.{List}
use Prim.Native.Nat.{ℕ}
use borrow.Author.Tests.{eqb-true, not-false}
use lib.Dec.{eqb}
use Rattle.std.specs.Prelude.{Ok, Err}
use Rattle.answer.specs.Answer.{Answer, is_good}
use Rattle.answer.specs.declared.Reason.TheVariants as reasons
use Rattle.answer.proofs.Ladder.{both_good, not_refused}
use Rattle.segment.specs.declared.Description.{Description}
use Rattle.segment.specs.Rules.{segment_rules}
use Rattle.segment.specs.Places.{range_rule}
use Rattle.segment.proofs.Rules.{rules_segment}
use Rattle.segment.proofs.Places.{range_facts}
use Rattle.command.specs.declared.Command.{Command}
use Rattle.decoding.specs.Commands.{Decoded, decode}
use Rattle.refusal.specs.declared.Lengths.{Lengths}
use Rattle.refusal.specs.Refusal.{long_rule, other_rule, plain_rule, type_rules, code_rule, check_rule, size_rule, buffer_of, buffer_rule, refusal}
use Rattle.admission.specs.Admission.{Decided, behind, admit_decoded, admitted}
use Rattle.admission.specs.Ready.{Ready}

plain_facts : (d : Description) (c : Command) → is_good (type_rules d c) ≡ true → d.kind ≡ 0 → c.code ≡ 0
unfolding type_rules plain_rule
plain_facts d c e k =
    let last = (both_good (other_rule d c) (plain_rule d c) (both_good (long_rule d c) _ e).1).1 in
    eqb-true c.code 0 (not-false (eqb c.code 0) (rw k at (not_refused (eqb d.kind 0 && not (eqb c.code 0)) reasons.FieldInvalid last)))

buffer_facts : (d : Description) (c : Command) (l : Lengths) → is_good (buffer_rule d c l) ≡ true → l.buffer ≡ buffer_of d c
unfolding buffer_rule
buffer_facts d c l e = eqb-true l.buffer (buffer_of d c) (not-false _ (not_refused _ _ e))

pub ready : (d : Description) (c : Command) (l : Lengths) → is_good (segment_rules d l.segment) ≡ true → is_good (refusal d c l) ≡ true → Ready d c l
unfolding refusal
ready d c l s e =
    let segment = rules_segment d l.segment s in
    let one = both_good (type_rules d c) _ e in
    let two = both_good (code_rule c) _ one.1 in
    let three = both_good (check_rule c) _ two.1 in
    let four = both_good (range_rule d c.address c.length) _ three.1 in
    let five = both_good (size_rule d c) _ four.1 in
    let range = range_facts d c.address c.length four.0 in
    record {
      described = segment.0;
      whole = segment.1;
      from = range.0;
      to = range.1;
      room = buffer_facts d c l five.1;
      plain = plain_facts d c one.0;
    }

-- ---- and so is a command that goes on
went_on : (a : Answer) (x : Decided) (c : Command) → behind a x ≡ Ok c → (is_good a ≡ true) × (x ≡ Ok c)
went_on (Ok u) x c e = (refl, e)
went_on (Err r) x c e = cc

-- what goes on was served, and passed its rules
record Passed (d : Description) (l : Lengths) (r : Decoded) (c : Command) : Type 0 where
  served : r ≡ Ok c
  rules : is_good (refusal d c l) ≡ true

passed : (d : Description) (l : Lengths) (r : Decoded) (c : Command) → admit_decoded d r l ≡ Ok c → Passed d l r c
passed d l (Ok k) c e =
    let w = went_on (refusal d k l) (Ok k) c e in
    let same : k ≡ c = cc in
    record { served = ap Ok same; rules = rw (← same) w.0 }
passed d l (Err a) c e = cc

module _ (d : Description) (l : Lengths) (command : List ℕ) (c : Command) (e : admitted d l command ≡ Ok c) where
  went : (is_good (segment_rules d l.segment) ≡ true) × (admit_decoded d (decode command) l ≡ Ok c)
  unfolding admitted
  went = went_on (segment_rules d l.segment) (admit_decoded d (decode command) l) c e

  pub admitted_served : decode command ≡ Ok c
  admitted_served = (passed d l (decode command) c went.1).served

  pub admitted_ready : Ready d c l
  admitted_ready = ready d c l went.0 (passed d l (decode command) c went.1).rules

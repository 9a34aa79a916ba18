-- A command that is not in order is answered by a number that is not 8, 9, 10 or 15: no refusal of admission names an interval, or a block.
-- Assumes nothing.
use Rattle.std.specs.Prelude.{Ok, Err}
use mathlib.Core.Path.{◌≡◌, refl}
use mathlib.Core.Bool.{Bool, true, false, not, ◌&&◌, ◌||◌, cond}
use mathlib.Core.List.{List}
use Prim.Native.Nat.{ℕ, ◌+◌}
use lib.Dec.{eqb, ltb}
use Rattle.answer.specs.Answer.{is_good, for_protection, for_difference, or_else, refused_if, Answer}
use Rattle.answer.specs.Answer as answers
use Rattle.answer.specs.declared.Refusal.{Refusal}
use Rattle.answer.specs.declared.Reason.{Reason}
use Rattle.answer.specs.declared.Reason.TheVariants as reasons
use Rattle.answer.proofs.Demands.{refused_for_no_field, refused_for_no_block}
use Rattle.segment.specs.declared.Description.{Description}
use Rattle.segment.specs.Segment.{is_segment, length_of}
use Rattle.segment.specs.Rules.{description_rule, length_rule, segment_rules}
use Rattle.segment.specs.Places.{range_rule}
use Rattle.command.specs.declared.Command.{Command}
use Rattle.command.specs.Tags.{long}
use Rattle.decoding.specs.Commands.{Decoded, decode}
use Rattle.refusal.specs.declared.Lengths.{Lengths}
use Rattle.refusal.specs.Refusal.{long_rule, other_rule, plain_rule, type_rules, code_rule, check_rule, moved_of, size_rule, buffer_of, buffer_rule, refusal}
use Rattle.admission.specs.Admission.{behind, Decided, admit_decoded, admitted}

-- what holds of both holds of the one that a test picks
pick : {A : Type 0} (P : A → Type 0) (b : Bool) (x y : A) → P x → P y → P (cond b x y)
pick P true x y p q = p
pick P false x y p q = q

abbrev Other : Answer → Type 0
Other a = (for_protection a ≡ false) × (for_difference a ≡ false)

reason_other : (r : Reason) → Other (answers.refused r)
reason_other r = (refused_for_no_field r, refused_for_no_block r)

rule_other : (b : Bool) (r : Reason) → Other (refused_if b r)
rule_other true r = reason_other r
rule_other false r = (refl, refl)

or_else_lem : (x y : Answer) → Other x → Other y → Other (or_else x y)
or_else_lem x y p q = pick Other (is_good x) y x q p

-- ---- the segment, and the command's fields
segment_other : (d : Description) (n : ℕ) → Other (segment_rules d n)
unfolding segment_rules description_rule length_rule
segment_other d n =
    or_else_lem (description_rule d) (length_rule d n) (rule_other (not (is_segment d)) reasons.DescriptionBad)
    (rule_other (not (eqb n (length_of d))) reasons.SegmentLengthWrong)

types_other : (d : Description) (c : Command) → Other (type_rules d c)
unfolding type_rules long_rule other_rule plain_rule
types_other d c =
    or_else_lem (long_rule d c) _ (rule_other (long c && not (eqb d.kind 2)) reasons.OperationInvalid)
    (or_else_lem (other_rule d c) (plain_rule d c) (rule_other (not (long c) && (eqb d.kind 2 && not (eqb c.code 0))) reasons.OperationInvalid)
    (rule_other (eqb d.kind 0 && not (eqb c.code 0)) reasons.FieldInvalid))

refusal_other : (d : Description) (c : Command) (l : Lengths) → Other (refusal d c l)
unfolding refusal code_rule check_rule range_rule size_rule buffer_rule
refusal_other d c l =
    or_else_lem (type_rules d c) _ (types_other d c)
    (or_else_lem (code_rule c) _ (rule_other (ltb 0b101 c.code) reasons.FieldInvalid)
    (or_else_lem (check_rule c) _ (rule_other (ltb 0b01 c.check) reasons.FieldInvalid)
    (or_else_lem (range_rule d c.address c.length) _
    (rule_other (ltb c.address d.first || ltb (d.first + d.count) (c.address + c.length)) reasons.AddressOutOfRange)
    (or_else_lem (size_rule d c) _ (rule_other (ltb 4294967295 (moved_of d c)) reasons.TransferTooLarge)
    (rule_other (not (eqb l.buffer (buffer_of d c))) reasons.BufferLengthWrong)))))

-- ---- all that admission refuses
abbrev AdmittedOther : Decided → Type 0
AdmittedOther (Err e) = Other (Err e)
AdmittedOther (Ok c) = Unit {0}

behind_other : (a : Answer) (x : Decided) → Other a → AdmittedOther x → AdmittedOther (behind a x)
behind_other (Ok u) x o y = y
behind_other (Err e) x o y = o

admit_other : (d : Description) (x : Decoded) (l : Lengths) → AdmittedOther (admit_decoded d x l)
admit_other d (Ok k) l = behind_other (refusal d k l) _ (refusal_other d k l) tt
admit_other d (Err r) l = reason_other r

module _ (d : Description) (l : Lengths) (command : List ℕ) where
  admitted_other : AdmittedOther (admitted d l command)
  unfolding admitted
  admitted_other =
      behind_other (segment_rules d l.segment) _ (segment_other d l.segment) (admit_other d (decode command) l)

  pub not_in_order_names_no_interval : (e : Refusal) → admitted d l command ≡ Err e → for_protection (Err e) ≡ false
  not_in_order_names_no_interval r e = (rw e at admitted_other).0

  pub not_in_order_names_no_block : (e : Refusal) → admitted d l command ≡ Err e → for_difference (Err e) ≡ false
  not_in_order_names_no_block r e = (rw e at admitted_other).1

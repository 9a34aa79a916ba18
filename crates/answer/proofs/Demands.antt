-- Each answer's number is one of the table's, with the table's sense; of these 0 is good and no other is. A refusal leaves what was lent.
-- Assumes nothing.
use Prim.Native.Nat.{ℕ}
use mathlib.Core.Path.{◌≡◌, refl, sym, ◌∙◌}
use mathlib.Core.Bool.{Bool, true, false, ◌&&◌, false≢true}
use mathlib.Core.List.{map}
use lib.Dec.{eqb, leb}
use Rattle.std.specs.Prelude.{Ok, Err}
use Rattle.answer.specs.Answer.{Answer, wrong, differs, refused, Row, field_row, differs_row, reason_row, number_of, sense_of, address_of, is_good, for_protection, for_difference, sense_numbered, table, in_table}
use Rattle.answer.specs.Outcome.{leaving}
use Rattle.answer.specs.declared.Refusal.TheVariants.{Wrong, BlockDiffers, Refused}
use Rattle.answer.specs.declared.Field.{Field}
use Rattle.answer.specs.declared.Field.TheVariants.{Guard, Application, Reference}
use Rattle.answer.specs.declared.Reason.{Reason}
use Rattle.answer.specs.declared.Reason.TheVariants.{DescriptionBad, SegmentLengthWrong, CommandLengthWrong, BufferLengthWrong, OperationInvalid, FieldInvalid, AddressOutOfRange, StripeShapeBad, ParameterInvalid, ListingRecordBad, TransferTooLarge}

-- a row of the table, not that of 0, that stands for a failed check or not, for a block that differs or not; by its number its sense is
-- found
abbrev There : Row → Bool → Bool → Type 0
There r p b =
    (eqb r.number 0 ≡ false) × (in_table r.number ≡ true) × (leb 8 r.number && leb r.number 10 ≡ p) × (eqb r.number 15 ≡ b)
    × (sense_numbered r.number ≡ r.sense)

field_there : (f : Field) → There (field_row f) true false
field_there Guard = (refl, refl, refl, refl, refl)
field_there Application = (refl, refl, refl, refl, refl)
field_there Reference = (refl, refl, refl, refl, refl)

differs_there : There differs_row false true
differs_there = (refl, refl, refl, refl, refl)

reason_there : (r : Reason) → There (reason_row r) false false
reason_there DescriptionBad = (refl, refl, refl, refl, refl)
reason_there SegmentLengthWrong = (refl, refl, refl, refl, refl)
reason_there CommandLengthWrong = (refl, refl, refl, refl, refl)
reason_there BufferLengthWrong = (refl, refl, refl, refl, refl)
reason_there OperationInvalid = (refl, refl, refl, refl, refl)
reason_there FieldInvalid = (refl, refl, refl, refl, refl)
reason_there AddressOutOfRange = (refl, refl, refl, refl, refl)
reason_there StripeShapeBad = (refl, refl, refl, refl, refl)
reason_there ParameterInvalid = (refl, refl, refl, refl, refl)
reason_there ListingRecordBad = (refl, refl, refl, refl, refl)
reason_there TransferTooLarge = (refl, refl, refl, refl, refl)

-- "0 good": "Any answer but 0" is a refusal
pub good_is_zero : (a : Answer) → is_good a ≡ eqb (number_of a) 0
good_is_zero (Ok u) = refl
good_is_zero (Err (Wrong f a p)) = sym (field_there f).0
good_is_zero (Err (BlockDiffers a)) = sym differs_there.0
good_is_zero (Err (Refused r)) = sym (reason_there r).0

-- "every input gets exactly one answer of the table": whatever the answer is, its number stands there
pub in_table_lem : (a : Answer) → in_table (number_of a) ≡ true
in_table_lem (Ok u) = refl
in_table_lem (Err (Wrong f a p)) = (field_there f).1
in_table_lem (Err (BlockDiffers a)) = differs_there.1
in_table_lem (Err (Refused r)) = (reason_there r).1

-- "8, 9, 10": exactly the answers on a field
pub wrong_for_protection : (f : Field) (a p : ℕ) → for_protection (wrong f a p) ≡ true
wrong_for_protection f a p = (field_there f).2

pub refused_for_no_field : (r : Reason) → for_protection (refused r) ≡ false
refused_for_no_field r = (reason_there r).2

-- and "15" exactly the answer on a block, which has an address and place 0
pub differs_for_no_field : (a : ℕ) → for_protection (differs a) ≡ false
differs_for_no_field a = differs_there.2

pub refused_for_no_block : (r : Reason) → for_difference (refused r) ≡ false
refused_for_no_block r = (reason_there r).3

pub fifteen_names_a_block : (a : Answer) → for_difference a ≡ true → a ≡ differs (address_of a)
fifteen_names_a_block (Ok u) e = absurd (false≢true e)
fifteen_names_a_block (Err (Wrong f a p)) e = absurd (false≢true (sym (field_there f).3 ∙ e))
fifteen_names_a_block (Err (BlockDiffers a)) e = refl
fifteen_names_a_block (Err (Refused r)) e = absurd (false≢true (sym (reason_there r).3 ∙ e))

-- "| sense |": of each of the table's numbers the sense that stands in its row
pub senses_as_listed : map (λ (r : Row). sense_numbered r.number) table ≡ map (λ (r : Row). r.sense) table
senses_as_listed = refl

pub sense_by_number : (a : Answer) → sense_numbered (number_of a) ≡ sense_of a
sense_by_number (Ok u) = refl
sense_by_number (Err (Wrong f a p)) = (field_there f).4
sense_by_number (Err (BlockDiffers a)) = differs_there.4
sense_by_number (Err (Refused r)) = (reason_there r).4

-- "Any answer but 0 changes no lent byte"
pub refused_leaves : {L : Type 0} (a : Answer) (old new : L) → is_good (leaving a old new).answer ≡ false → (leaving a old new).left ≡ old
refused_leaves a old new w = rw w refl

pub good_leaves : {L : Type 0} (a : Answer) (old new : L) → is_good (leaving a old new).answer ≡ true → (leaving a old new).left ≡ new
good_leaves a old new w = rw w refl

-- "Answer numbers": the table's number, sense, address and place for each answer; of document 02, its number 15.
use Rattle.std.specs.Prelude.{ℕ, Bool, true, false, ◌&&◌, ◌||◌, cond, List, [], ◌∷◌, eqb, leb, Result, Ok, Err}
use Rattle.answer.specs.declared.Refusal.{Refusal}
use Rattle.answer.specs.declared.Refusal.TheVariants.{Wrong, BlockDiffers, Refused}
use Rattle.answer.specs.declared.Field.{Field}
use Rattle.answer.specs.declared.Field.TheVariants.{Guard, Application, Reference}
use Rattle.answer.specs.declared.Reason.{Reason}
use Rattle.answer.specs.declared.Reason.TheVariants.{DescriptionBad, SegmentLengthWrong, CommandLengthWrong, BufferLengthWrong, OperationInvalid, FieldInvalid, AddressOutOfRange, StripeShapeBad, ParameterInvalid, ListingRecordBad, TransferTooLarge}

-- "| no. | meaning | sense |": a row's number, and its sense: key, code and qualifier, two hexadecimal digits each (05/20/00 is 0x05_20_00);
-- 0 where the table has none
pub record Row : Type 0 where
  pub number : ℕ
  pub sense : ℕ

abbrev row : ℕ → ℕ → Row
row n s = record { number = n; sense = s }

-- "0 | good"
abbrev pub good_row : Row
good_row = row 0 0

-- "8, 9, 10 | guard, application, reference check failed"
abbrev pub field_row : Field → Row
field_row Guard = row 8 0x0B_10_01
field_row Application = row 9 0x0B_10_02
field_row Reference = row 10 0x0B_10_03

-- document 02: "15 (0E/1D/00)"
abbrev pub differs_row : Row
differs_row = row 15 0x0E_1D_00

-- the other refusals, in the table's order
abbrev pub reason_row : Reason → Row
reason_row DescriptionBad = row 1 0
reason_row SegmentLengthWrong = row 2 0
reason_row CommandLengthWrong = row 3 0
reason_row BufferLengthWrong = row 4 0
reason_row OperationInvalid = row 5 0x05_20_00
reason_row FieldInvalid = row 6 0x05_24_00
reason_row AddressOutOfRange = row 7 0x05_21_00
reason_row StripeShapeBad = row 11 0
reason_row ParameterInvalid = row 12 0x05_26_00
reason_row ListingRecordBad = row 13 0
reason_row TransferTooLarge = row 14 0

-- an answer: good, or why it is not
abbrev pub Answer : Type 0
Answer = Result (Unit {0}) Refusal

abbrev pub good : Answer
good = Ok tt

abbrev pub wrong : Field → ℕ → ℕ → Answer
wrong f a p = Err (Wrong f a p)

abbrev pub differs : ℕ → Answer
differs a = Err (BlockDiffers a)

abbrev pub refused : Reason → Answer
refused r = Err (Refused r)

-- the answer of a call that hands something back where it is good
abbrev pub answer_of : {A : Type 0} → Result A Refusal → Answer
answer_of (Ok x) = good
answer_of (Err e) = Err e

-- the row of an answer: its number and its sense follow
abbrev pub row_of : Answer → Row
row_of (Ok u) = good_row
row_of (Err (Wrong f a p)) = field_row f
row_of (Err (BlockDiffers a)) = differs_row
row_of (Err (Refused r)) = reason_row r

abbrev pub number_of : Answer → ℕ
number_of a = (row_of a).number

abbrev pub sense_of : Answer → ℕ
sense_of a = (row_of a).sense

-- "Numbers 8 to 10 also give the block's address and the interval's place in the transfer, from 0; all others give 0 and 0.", and 15
-- "the address of the first differing block and place 0"
abbrev pub address_of : Answer → ℕ
address_of (Ok u) = 0
address_of (Err (Wrong f a p)) = a
address_of (Err (BlockDiffers a)) = a
address_of (Err (Refused r)) = 0

abbrev pub place_of : Answer → ℕ
place_of (Ok u) = 0
place_of (Err (Wrong f a p)) = p
place_of (Err (BlockDiffers a)) = 0
place_of (Err (Refused r)) = 0

abbrev pub is_good : Answer → Bool
is_good (Ok u) = true
is_good (Err e) = false

-- "8, 9, 10 | guard, application, reference check failed"
abbrev pub for_protection : Answer → Bool
for_protection a = leb 8 (number_of a) && leb (number_of a) 10

-- "15": a block differs
abbrev pub for_difference : Answer → Bool
for_difference a = eqb (number_of a) 15

-- a rule: the refusal where something holds
abbrev pub refused_if : Bool → Reason → Answer
refused_if b r = cond b (refused r) good

-- the first of two answers that is not good
abbrev pub or_else : Answer → Answer → Answer
or_else a b = cond (is_good a) b a

-- the table: all its rows
abbrev pub table : List Row
table =
    good_row
    ∷ reason_row DescriptionBad ∷ reason_row SegmentLengthWrong ∷ reason_row CommandLengthWrong ∷ reason_row BufferLengthWrong
    ∷ reason_row OperationInvalid ∷ reason_row FieldInvalid ∷ reason_row AddressOutOfRange
    ∷ field_row Guard ∷ field_row Application ∷ field_row Reference
    ∷ reason_row StripeShapeBad ∷ reason_row ParameterInvalid ∷ reason_row ListingRecordBad ∷ reason_row TransferTooLarge
    ∷ differs_row ∷ []

-- the sense in the row of a number; 0 for a number that is not in the table
abbrev pub sense_in : List Row → ℕ → ℕ
sense_in [] n = 0
sense_in (r ∷ rs) n = cond (eqb n r.number) r.sense (sense_in rs n)

abbrev pub sense_numbered : ℕ → ℕ
sense_numbered n = sense_in table n

-- whether a number is one of the table's
abbrev pub is_number_in : List Row → ℕ → Bool
is_number_in [] n = false
is_number_in (r ∷ rs) n = eqb n r.number || is_number_in rs n

abbrev pub in_table : ℕ → Bool
in_table n = is_number_in table n

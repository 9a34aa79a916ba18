-- A line of the listing: its state and its text.
use Rattle.std.specs.Prelude.{ℕ, Bool, cond, List, [], ◌∷◌, ◌++◌}
use Rattle.std.specs.Prelude as std
use Rattle.answer.specs.Answer.{Answer}
use Rattle.answer.specs.declared.Refusal.TheVariants.{Wrong, BlockDiffers, Refused}
use Rattle.answer.specs.declared.Field.{Field}
use Rattle.answer.specs.declared.Field.TheVariants as fields
use Rattle.interval.specs.declared.Rules.{Rules}
use Rattle.interval.specs.declared.Place.{Place}
use Rattle.field.specs.Field.{stored_guard, stored_application, stored_reference, field_of}
use Rattle.interval.specs.Interval.{judge_interval}
use Rattle.digits.specs.Digits.{hexadecimal, decimal}
use Rattle.lines.specs.declared.Line.{Line}
use Rattle.lines.specs.declared.State.{State}
use Rattle.lines.specs.declared.State.TheVariants.{Skipped, Guard, Ref, Ok}

-- "else `guard`, else `ref` .., else `ok`": the word for a wrong field; the listing expects no application tag
abbrev pub field_word : Field → State
field_word fields.Guard = Guard
field_word fields.Application = Ok
field_word fields.Reference = Ref

-- what judging says of an interval, as a word of the listing
abbrev pub worded : Answer → State
worded (std.Ok u) = Ok
worded (std.Err (Wrong f a p)) = field_word f
worded (std.Err (BlockDiffers a)) = Ok
worded (std.Err (Refused r)) = Ok

-- "State is `skipped` under the escape, else `guard`, else `ref` .., else `ok`."
unfoldable pub state_of : Rules → Bool → Place → List ℕ → State
state_of r skipped p s = cond skipped Skipped (worded (judge_interval r p s))

unfoldable pub line_of : Rules → Bool → ℕ → Place → List ℕ → Line
line_of r skipped i p s =
    record {
      address = p.address;
      interval = i;
      guard = stored_guard (field_of r.size s);
      application = stored_application (field_of r.size s);
      reference = stored_reference (field_of r.size s);
      state = state_of r skipped p s;
    }

-- ---- as printed: a space is 0x20, a newline 0x0A
abbrev pub state_text : State → List ℕ
state_text Skipped = 0x73 ∷ 0x6B ∷ 0x69 ∷ 0x70 ∷ 0x70 ∷ 0x65 ∷ 0x64 ∷ []
state_text Guard = 0x67 ∷ 0x75 ∷ 0x61 ∷ 0x72 ∷ 0x64 ∷ []
state_text Ref = 0x72 ∷ 0x65 ∷ 0x66 ∷ []
state_text Ok = 0x6F ∷ 0x6B ∷ []

-- "address, interval in its block (decimal), stored guard, application, reference (lower-case hexadecimal), and state"
unfoldable pub line_text : Line → List ℕ
line_text l =
    decimal l.address ++ (0x20 ∷ decimal l.interval ++ (0x20 ∷ hexadecimal 4 l.guard
    ++ (0x20 ∷ hexadecimal 4 l.application ++ (0x20 ∷ hexadecimal 8 l.reference
    ++ (0x20 ∷ state_text l.state ++ (0x0A ∷ []))))))

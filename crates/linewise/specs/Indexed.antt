-- The interval lines one by one, in document 01's words: what stands on line j × n + i, counted from 0 behind the header.
use Rattle.std.specs.Prelude.{ℕ, ◌+◌, ◌%◌, ◌^◌, Bool, not, ◌&&◌, cond, List, eqb}
use Rattle.guard.specs.Guard.{guard}
use Rattle.segment.specs.declared.Description.{Description}
use Rattle.segment.specs.Segment.{intervals_of, size_of}
use Rattle.segment.specs.Places.{block_at, interval_at}
use Rattle.field.specs.Field.{stored_guard, stored_application, stored_reference, data_of, field_of}
use Rattle.interval.specs.Interval.{any_escapes}
use Rattle.sides.specs.declared.Side.TheVariants.{Stored}
use Rattle.rules.specs.Rules.{escape_of}
use Rattle.lines.specs.declared.Line.{Line}
use Rattle.lines.specs.declared.State.{State}
use Rattle.lines.specs.declared.State.TheVariants.{Skipped, Guard, Ref, Ok}

-- the data and the eight field bytes of interval i in block j
abbrev pub data_at : Description → List ℕ → ℕ → ℕ → List ℕ
data_at d s j i = data_of (size_of d) (interval_at d s j i)

abbrev pub field_at : Description → List ℕ → ℕ → ℕ → List ℕ
field_at d s j i = field_of (size_of d) (interval_at d s j i)

-- "`skipped` under the escape": an interval of the block has it
abbrev pub escaped_at : Description → List ℕ → ℕ → Bool
escaped_at d s j = any_escapes (escape_of Stored d.kind) (size_of d) (intervals_of d) (block_at d s j)

-- "else `guard`": the stored guard is not the guard of the data
abbrev pub guard_wrong_at : Description → List ℕ → ℕ → ℕ → Bool
guard_wrong_at d s j i = not (eqb (stored_guard (field_at d s j i)) (guard (data_at d s j i)))

-- "else `ref` (type 1 only, the address's low four bytes expected)"
abbrev pub reference_wrong_at : Description → List ℕ → ℕ → ℕ → Bool
reference_wrong_at d s j i = eqb d.kind 1 && not (eqb (stored_reference (field_at d s j i)) ((d.first + j) % 2 ^ 32))

-- "State is `skipped` under the escape, else `guard`, else `ref` .., else `ok`."
abbrev pub state_at : Description → List ℕ → ℕ → ℕ → State
state_at d s j i =
    cond (escaped_at d s j) Skipped (cond (guard_wrong_at d s j i) Guard (cond (reference_wrong_at d s j i) Ref Ok))

-- "for each interval: address, interval in its block (decimal), stored guard, application, reference (lower-case hexadecimal),
-- and state": of interval i in block j
unfoldable pub line_at : Description → List ℕ → ℕ → ℕ → Line
line_at d s j i =
    record {
      address = d.first + j;
      interval = i;
      guard = stored_guard (field_at d s j i);
      application = stored_application (field_at d s j i);
      reference = stored_reference (field_at d s j i);
      state = state_at d s j i;
    }

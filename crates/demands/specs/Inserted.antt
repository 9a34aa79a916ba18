-- "Inserted on WRITE with 000", interval by interval.
use Rattle.std.specs.Prelude.{ℕ, ◌+◌, ◌*◌, ◌%◌, ◌^◌, ◌≡◌, not, ◌&&◌, cond, List, eqb, take, drop}
use Rattle.guard.specs.Guard.{guard}
use Rattle.segment.specs.declared.Description.{Description}
use Rattle.segment.specs.Segment.{intervals_of, size_of}
use Rattle.segment.specs.Places.{interval_at}
use Rattle.command.specs.declared.Command.{Command}
use Rattle.command.specs.Tags.{long}
use Rattle.field.specs.Field.{stored_guard, stored_application, stored_reference, data_of, field_of}
use Rattle.marks.specs.Inserted.{inserted_application}
use Rattle.rules.specs.Intervals.{place_at}

-- "reference as expected above, except type 2 with 10, 12 or 16 bytes, where it is (address of the block × n + interval in the
-- block) modulo 2^32, and type 3, where it is 0": of interval i in block j of the transfer
abbrev pub inserted_reference_at : Description → Command → ℕ → ℕ → ℕ
inserted_reference_at d c j i =
    cond (eqb d.kind 3) 0
    (cond (eqb d.kind 2 && not (long c)) (((c.address + j) * intervals_of d + i) % 2 ^ 32) (place_at d c j i).tag)

-- "With code 000 the buffer holds T × B bytes": the data of interval i in block j
abbrev pub user_data_at : Description → List ℕ → ℕ → ℕ → List ℕ
user_data_at d buffer j i = take (size_of d) (drop (i * size_of d) (drop (j * d.block) buffer))

-- "Inserted on WRITE with 000: the guard; application ..; reference ..": interval i in block j of the stored blocks
pub record InsertedAt (d : Description) (c : Command) (stored buffer : List ℕ) (j i : ℕ) : Type 0 where
  pub user : data_of (size_of d) (interval_at d stored j i) ≡ user_data_at d buffer j i
  pub guarded : stored_guard (field_of (size_of d) (interval_at d stored j i)) ≡ guard (user_data_at d buffer j i)
  pub application : stored_application (field_of (size_of d) (interval_at d stored j i)) ≡ inserted_application d c
  pub reference : stored_reference (field_of (size_of d) (interval_at d stored j i)) ≡ inserted_reference_at d c j i

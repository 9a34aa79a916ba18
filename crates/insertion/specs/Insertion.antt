-- Stored blocks made of user data: each interval with its field behind it.
use Rattle.std.specs.Prelude.{ℕ, ◌+◌, ◌*◌, ◌%◌, ◌^◌, List, ◌++◌, take}
use Rattle.words.specs.Runs.{runs}
use Rattle.guard.specs.Guard.{guard}
use Rattle.field.specs.Field.{field_bytes}
use Rattle.insertion.specs.declared.Marks.{Marks}

-- an interval's data with its field behind it
unfoldable pub with_field : ℕ → Marks → List ℕ → List ℕ
with_field size m s = take size s ++ field_bytes (guard (take size s)) m.application m.reference

-- the marks of the interval after the next k: the reference tag goes on by `step`, modulo 2^32
abbrev pub later : ℕ → Marks → Marks
later k m = record { application = m.application; reference = (m.reference + k * m.step) % 2 ^ 32; step = m.step }

-- a stored block made of n intervals of user data
unfoldable pub stored_block : ℕ → ℕ → Marks → List ℕ → List ℕ
stored_block size n m s = runs (with_field size) (later 1) size n m s

-- k stored blocks made of user data
unfoldable pub stored_blocks : ℕ → ℕ → ℕ → Marks → List ℕ → List ℕ
stored_blocks size n k m s = runs (stored_block size n) (later n) (n * size) k m s

-- The guards of a run of intervals, laid end to end.
use Rattle.std.specs.Prelude.{ℕ, ◌*◌, ◌/◌, ◌%◌, Bool, not, ◌&&◌, List, eqb, ltb, length, take}
use Rattle.words.specs.BigEndian.{bytes}
use Rattle.words.specs.Runs.{runs}
use Rattle.answer.specs.Answer.{Answer, refused_if}
use Rattle.answer.specs.Outcome.{Outcome, leaving}
use Rattle.answer.specs.declared.Reason.TheVariants as reasons
use Rattle.guard.specs.Guard.{guard}

-- the guard of the interval that stands first in the list, as two bytes
unfoldable pub guard_of_first : ℕ → ℕ → List ℕ → List ℕ
guard_of_first size t s = bytes 2 (guard (take size s))

-- the guards of k intervals of `size` bytes
unfoldable pub guards_of : ℕ → ℕ → List ℕ → List ℕ
guards_of size k s = runs (guard_of_first size) (λ t. t) size k 0 s

-- the data is a whole number of intervals, and there are two bytes for each
unfoldable pub fits : List ℕ → ℕ → List ℕ → Bool
fits s size out = ltb 0 size && (eqb (length s % size) 0 && eqb (length out) (length s / size * 2))

-- "4 | buffer length wrong"
unfoldable pub guards_rule : List ℕ → ℕ → List ℕ → Answer
guards_rule s size out = refused_if (not (fits s size out)) reasons.BufferLengthWrong

unfoldable pub guards : List ℕ → ℕ → List ℕ → Outcome (List ℕ)
guards s size out = leaving (guards_rule s size out) out (guards_of size (length s / size) s)

-- An interval's guard error is its stored guard exclusive-ored with the guard of its data: 0 where the guard is right.
use Rattle.std.specs.Prelude.{ℕ, zero, suc, List, drop}
use Rattle.std.specs.Int.Bits.{bit_xor}
use Rattle.guard.specs.Guard.{guard}
use Rattle.field.specs.Field.{data_of, field_of, stored_guard}
use Rattle.segment.specs.declared.Description.{Description}
use Rattle.segment.specs.Segment.{size_of}
use Rattle.segment.specs.Places.{interval_at}
use Rattle.parity.specs.Parity.{part}

-- of the interval of `size` data bytes that stands first in the list
unfoldable pub error_at : ℕ → List ℕ → ℕ
error_at size s = bit_xor (stored_guard (field_of size s)) (guard (data_of size s))

-- of the interval that begins at o in part m of parts of `long` bytes
abbrev pub member_error : ℕ → ℕ → ℕ → List ℕ → ℕ → ℕ
member_error long size o s m = error_at size (drop o (part long m s))

-- of interval i of block j of a segment
abbrev pub error_in : Description → ℕ → ℕ → List ℕ → ℕ
error_in d j i s = error_at (size_of d) (interval_at d s j i)

-- the exclusive or of f 0 to f (k - 1)
unfoldable pub xor_over : ℕ → (ℕ → ℕ) → ℕ
xor_over zero f = 0
xor_over (suc k) f = bit_xor (f 0) (xor_over k (λ m. f (suc m)))

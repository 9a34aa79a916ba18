-- The guard byte by byte from a starting remainder: the form in which its laws are proved. `proofs/Division.antt` shows that from the remainder 0
-- it is the guard.
use Rattle.std.specs.Prelude.{ℕ, zero, suc, ◌*◌, ◌/◌, ◌%◌, List, [], ◌∷◌}
use Rattle.std.specs.Int.Bits.{bit_xor}

-- a remainder of sixteen bits times x
unfoldable pub times_x : ℕ → ℕ
times_x r = bit_xor (r * 2 % 65536) (r / 32768 % 2 * 0x8BB7)

-- times x, n times
unfoldable pub times : ℕ → ℕ → ℕ
times zero r = r
times (suc n) r = times n (times_x r)

-- one byte more
unfoldable pub step_byte : ℕ → ℕ → ℕ
step_byte r b = times 8 (bit_xor r (b % 256 * 256))

-- the guard of a list whose earlier part left the remainder r
unfoldable pub guard_from : ℕ → List ℕ → ℕ
guard_from r [] = r
guard_from r (b ∷ bs) = guard_from (step_byte r b) bs

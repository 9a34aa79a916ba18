-- The guard two bytes at a time, through four rows of sixteen numbers. No document asks for them: they are a quicker way to the guard of
-- `Guard`, which the contract of `guard::Rows::guard` says they lead to.
use Rattle.std.specs.Prelude.{ℕ, ◌+◌, ◌*◌, ◌/◌, ◌%◌, ◌^◌, ◌<◌, ◌≡◌, List, [], ◌∷◌, get_or}
use Rattle.std.specs.Int.Bits.{bit_xor}
use Rattle.guard.specs.Guard.{guard}

-- a number as two bytes
abbrev pub two_bytes : ℕ → List ℕ
two_bytes v = v / 256 ∷ v % 256 ∷ []

-- number n of row k, which is number 16 * k + n of all, is the guard of the two bytes of n * 16^k
pub record RightRows (w : List ℕ) : Type 0 where
  pub entry : (i : ℕ) → i < 64 → get_or w i 0 ≡ guard (two_bytes (i % 16 * 16 ^ (i / 16)))

-- two bytes through the rows, v being their number, below 65,536: each half byte chooses a number of its row
unfoldable pub rows_step : List ℕ → ℕ → ℕ
rows_step w v =
    bit_xor (bit_xor (bit_xor (get_or w (v % 16) 0) (get_or w (16 + v / 16 % 16) 0)) (get_or w (32 + v / 256 % 16) 0)) (get_or w (48 + v / 4096) 0)

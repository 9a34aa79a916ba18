-- "It is computed by long division and also through a table of 256 numbers, entry v being the guard of the single byte v; both ways agree for every input."
use Rattle.std.specs.Prelude.{ℕ, ◌*◌, ◌/◌, ◌%◌, ◌<◌, ◌≡◌, List, [], ◌∷◌, get_or}
use Rattle.std.specs.Int.Bits.{bit_xor}
use Rattle.guard.specs.Guard.{guard}

-- "entry v being the guard of the single byte v"
pub record Right (t : List ℕ) : Type 0 where
  pub entry : (v : ℕ) → v < 256 → get_or t v 0 ≡ guard (v ∷ [])

-- one byte through a table: the remainder's high byte and the data byte choose the entry
unfoldable pub table_step : List ℕ → ℕ → ℕ → ℕ
table_step t r b = bit_xor (r % 256 * 256) (get_or t (bit_xor (r / 256) b) 0)

-- all bytes through a table, from the remainder r
unfoldable pub through : List ℕ → ℕ → List ℕ → ℕ
through t r [] = r
through t r (b ∷ bs) = through t (table_step t r b) bs

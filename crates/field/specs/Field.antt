-- The eight bytes behind an interval's data.
use Rattle.std.specs.Prelude.{ℕ, List, ◌++◌, take, drop}
use Rattle.words.specs.BigEndian.{number_at, bytes}

-- "eight bytes: guard (2), application tag (2), reference tag (4), all big-endian"
unfoldable pub stored_guard : List ℕ → ℕ
stored_guard f = number_at 0 2 f

unfoldable pub stored_application : List ℕ → ℕ
stored_application f = number_at 2 2 f

unfoldable pub stored_reference : List ℕ → ℕ
stored_reference f = number_at 4 4 f

-- "eight bytes: guard (2), application tag (2), reference tag (4), all big-endian": written
unfoldable pub field_bytes : ℕ → ℕ → ℕ → List ℕ
field_bytes g a r = bytes 2 g ++ (bytes 2 a ++ bytes 4 r)

-- An interval in a list is its data bytes and the eight after them.
unfoldable pub data_of : ℕ → List ℕ → List ℕ
data_of size s = take size s

unfoldable pub field_of : ℕ → List ℕ → List ℕ
field_of size s = take 8 (drop size s)

-- Parts of a list of bytes.
use Rattle.std.specs.Prelude.{ℕ, ◌+◌, ◌<◌, List, ◌++◌, length, get_or, take, drop}

-- every element is a byte
abbrev pub Bytes : List ℕ → Type 0
Bytes s = (i : ℕ) → get_or s i 0 < 256

-- the list `old` with `new` in the place of what stands there from `at` on
unfoldable pub put : ℕ → List ℕ → List ℕ → List ℕ
put at new old = take at old ++ (new ++ drop (at + length new) old)

-- Numbers in bytes, highest byte first: "all big-endian".
use Rattle.std.specs.Prelude.{ℕ, zero, suc, ◌+◌, ◌*◌, ◌/◌, ◌%◌, List, [], ◌∷◌, ◌++◌, take, drop}

-- the number a with the bytes of the list written behind it
unfoldable pub number_from : ℕ → List ℕ → ℕ
number_from a [] = a
number_from a (b ∷ bs) = number_from (a * 256 + b) bs

-- the number that a list of bytes stands for
unfoldable pub number : List ℕ → ℕ
number s = number_from 0 s

-- the number in the w bytes from place `at` on: bytes 2-5 are `number_at 2 4`
unfoldable pub number_at : ℕ → ℕ → List ℕ → ℕ
number_at at w s = number (take w (drop at s))

-- the low w bytes of n: its lowest byte stands last
unfoldable pub bytes : ℕ → ℕ → List ℕ
bytes zero n = []
bytes (suc w) n = bytes w (n / 256) ++ (n % 256 ∷ [])

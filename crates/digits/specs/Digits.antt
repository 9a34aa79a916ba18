-- Numbers as they are printed.
use Rattle.std.specs.Prelude.{ℕ, zero, suc, ◌+◌, ◌/◌, ◌%◌, cond, List, [], ◌∷◌, ◌++◌, ltb}

-- a digit, of sixteen: "lower-case hexadecimal"
unfoldable pub digit : ℕ → ℕ
digit n = cond (ltb n 10) (0x30 + n) (0x57 + n)

-- the low k hexadecimal digits of n, the lowest last: "Guard and application have four digits, the reference eight."
unfoldable pub hexadecimal : ℕ → ℕ → List ℕ
hexadecimal zero n = []
hexadecimal (suc k) n = hexadecimal k (n / 16) ++ (digit (n % 16) ∷ [])

-- "decimal": as few digits as the number has, at least one and, of those we print, at most 20
unfoldable pub decimal_in : ℕ → ℕ → List ℕ
decimal_in zero n = []
decimal_in (suc k) n = cond (ltb n 10) (digit n ∷ []) (decimal_in k (n / 10) ++ (digit (n % 10) ∷ []))

unfoldable pub decimal : ℕ → List ℕ
decimal n = decimal_in 20 n

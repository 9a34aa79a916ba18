-- "The guard (002) is the remainder of the interval's data times x^16, divided modulo 2 by 18BB7h; highest term first,
-- byte zero bit seven; no initial value, no complement."
use Rattle.std.specs.Prelude.{ℕ, zero, suc, ◌+◌, ◌*◌, ◌/◌, ◌%◌, ◌^◌, cond, List, [], ◌∷◌, ◌++◌, ltb, replicate}
use Rattle.std.specs.Int.Bits.{bit_xor}

-- the low k bits of a byte as terms, highest first: `terms 8 b` begins with bit seven
unfoldable pub terms : ℕ → ℕ → List ℕ
terms zero b = []
terms (suc k) b = b / 2 ^ k % 2 ∷ terms k b

-- the terms of all the data, byte zero first
unfoldable pub terms_of : List ℕ → List ℕ
terms_of [] = []
terms_of (b ∷ bs) = terms 8 b ++ terms_of bs

-- the divisor is taken off, modulo 2, where it goes in
unfoldable pub take_off : ℕ → ℕ
take_off n = cond (ltb n 0x10000) n (bit_xor n 0x18BB7)

-- long division: one term after the other is brought down behind the remainder
unfoldable pub divide : ℕ → List ℕ → ℕ
divide r [] = r
divide r (t ∷ ts) = divide (take_off (r * 2 + t)) ts

-- the data times x^16: sixteen zeros behind its terms
unfoldable pub guard : List ℕ → ℕ
guard s = divide 0 (terms_of s ++ replicate 16 0)

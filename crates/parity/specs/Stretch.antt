-- The exclusive or of parts, a stretch at a time.
use Rattle.std.specs.Prelude.{ℕ, zero, suc, List, take, drop}
use Rattle.words.specs.Xor.{xors}
use Rattle.parity.specs.Parity.{xor_parts, parity_of}

-- what stands, with the exclusive or of the first n bytes of each of k parts that begin `long` bytes apart
unfoldable pub xor_stretch : ℕ → ℕ → ℕ → List ℕ → List ℕ → List ℕ
xor_stretch long n zero out s = out
xor_stretch long n (suc k) out s = xor_stretch long n k (xors out (take n s)) (drop long s)

-- the exclusive or of m parts in one list and n parts in another
unfoldable pub joined : ℕ → ℕ → List ℕ → ℕ → List ℕ → List ℕ
joined long m before n after = xor_parts long n (parity_of long m before) after

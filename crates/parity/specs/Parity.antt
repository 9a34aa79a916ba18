-- "Parity is their exclusive or, fields included": of parts of one length, laid end to end.
use Rattle.std.specs.Prelude.{ℕ, zero, suc, ◌+◌, ◌-◌, ◌*◌, List, take, drop, replicate}
use Rattle.words.specs.Xor.{xors}

-- part j of parts of `long` bytes, laid end to end
unfoldable pub part : ℕ → ℕ → List ℕ → List ℕ
part long j s = take long (drop (j * long) s)

-- the exclusive or of k parts of `long` bytes with what stands already
unfoldable pub xor_parts : ℕ → ℕ → List ℕ → List ℕ → List ℕ
xor_parts long zero out s = out
xor_parts long (suc k) out s = xor_parts long k (xors out (take long s)) (drop long s)

-- "Parity is their exclusive or"
unfoldable pub parity_of : ℕ → ℕ → List ℕ → List ℕ
parity_of long k s = xor_parts long k (replicate long 0) s

-- "Rebuilding takes k + 1 parts, parity last, and the number of the lost one (0 to k; its own bytes are not used)": the
-- exclusive or of those before it and those after it
unfoldable pub rebuilt_of : ℕ → ℕ → ℕ → List ℕ → List ℕ
rebuilt_of long k lost s = xor_parts long (k - lost) (parity_of long lost s) (drop ((lost + 1) * long) s)

-- "Correcting takes one member's old and new bytes and changes the parity lent with them"
unfoldable pub corrected_of : List ℕ → List ℕ → List ℕ → List ℕ
corrected_of old new parity = xors (xors parity old) new

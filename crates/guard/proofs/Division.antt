-- The document's long division and the guard from a starting remainder are the same.
-- Assumes nothing.
use mathlib.Core.Path.{◌≡◌, refl, sym, ap, ◌∙◌}
use mathlib.Core.List.{List, [], ◌∷◌, ◌++◌}
use Prim.Native.Nat.{ℕ, zero, suc, ◌+◌, ◌-◌, ◌*◌, ◌/◌, ◌%◌, ◌^◌, ◌<◌, ◌≤◌}
use native.Mathlib.Nat.{mod-lt, mod-one, zero-add, le_refl, lt_of_lt_of_le}
use native.Mathlib.Numerals.{one-add}
use native.Mathlib.Decide.{dec_lt}
use native.Mathlib.Omega.{arith}
use lib.Bits.{bit_xor, xor_lt, xor_zero_r, xor_shifted, xor_block, xor_comm}
use lib.Dec.{lit<}
use lib.Pow.{pow_pos, pow_mono, shl_lt, mod-pow-add}
use lib.ListN.{replicate}
use borrow.Author.Tests.{lt-ltb, le-ltb}
use Rattle.words.proofs.BitXor.{xor_assoc}
use Rattle.guard.specs.Guard.{guard, divide, take_off, terms, terms_of}
use Rattle.guard.specs.Remainder.{times_x, times, step_byte, guard_from}
use Rattle.guard.proofs.Remainder.{times_x_lt, times_xor, times_small, times_lt}

xor_right : (a b c : ℕ) → bit_xor (bit_xor a b) c ≡ bit_xor (bit_xor a c) b
xor_right a b c = xor_assoc a b c ∙ ap (bit_xor a) (xor_comm b c) ∙ sym (xor_assoc a c b)

-- a term brought down is a multiplication by x, with the term in the lowest place
small : (r t : ℕ) → r < 32768 → t < 2 → take_off (r * 2 + t) ≡ bit_xor (times_x r) t
unfolding take_off times_x
small r t h ht =
    let high : r / 32768 % 2 * 0x8BB7 ≡ 0 = omega arith in
    let low : r * 2 % 65536 ≡ r * 2 = omega arith in
    rw (lt-ltb (r * 2 + t) 0x10000 (omega arith), high, low, xor_zero_r, xor_shifted r 1 t)

large : (r t : ℕ) → 32768 ≤ r → r < 65536 → t < 2 → take_off (r * 2 + t) ≡ bit_xor (times_x r) t
unfolding take_off times_x
large r t l h ht =
    let high : r / 32768 % 2 * 0x8BB7 ≡ 0x8BB7 = omega arith in
    let low : r * 2 % 65536 ≡ (r - 32768) * 2 = omega arith in
    let whole : r * 2 + t ≡ 1 * 2 ^ 16 + ((r - 32768) * 2 + t) = omega arith in
    let less : (r - 32768) * 2 + t < 2 ^ 16 = omega arith in
    rw (le-ltb (r * 2 + t) 0x10000 (omega arith), high, low, whole)
    (xor_block 16 1 1 ((r - 32768) * 2 + t) 0x8BB7 less (lit< tt) ∙ zero-add _
    ∙ ap (λ (x : ℕ). bit_xor x 0x8BB7) (sym (xor_shifted (r - 32768) 1 t ht)) ∙ xor_right ((r - 32768) * 2) t 0x8BB7)

pub bring : (r t : ℕ) → r < 65536 → t < 2 → take_off (r * 2 + t) ≡ bit_xor (times_x r) t
bring r t h ht = elim (dec_lt r 32768) [ yes l ↦ small r t l ht | no n ↦ large r t (omega arith) h ht ]

pub take_off_lt : (r t : ℕ) → r < 65536 → t < 2 → take_off (r * 2 + t) < 65536
take_off_lt r t h ht = rw (bring r t h ht) (xor_lt 16 (times_x r) t (times_x_lt r) (omega arith))

pub divide_append : (r : ℕ) (a b : List ℕ) → divide r (a ++ b) ≡ divide (divide r a) b
unfolding divide
divide_append r [] b = refl
divide_append r (t ∷ a) b = divide_append (take_off (r * 2 + t)) a b

divide_zeros : (n r : ℕ) → r < 65536 → divide r (replicate n 0) ≡ times n r
unfolding divide times
divide_zeros zero r h = refl
divide_zeros (suc n) r h =
    ap (λ (x : ℕ). divide x (replicate n 0)) (bring r 0 h (lit< tt) ∙ xor_zero_r (times_x r)) ∙ divide_zeros n (times_x r) (times_x_lt r)

-- a byte is too short to be divided: its terms come out as they went in
divide_terms : (k b r : ℕ) → k ≤ 8 → r < 65536 → divide r (terms k b) ≡ bit_xor (times k r) (b % 2 ^ k)
unfolding divide terms times
divide_terms zero b r l h = rw (mod-one, xor_zero_r)
divide_terms (suc k) b r l h =
    let t = b / 2 ^ k % 2 in
    let bit : b / 2 ^ k % 2 < 2 = mod-lt (b / 2 ^ k) (lit< tt) in
    let fits : t * 2 ^ k < 65536 = lt_of_lt_of_le (shl_lt 1 k bit) (pow_mono {i = 1 + k} {j = 16} (omega arith)) in
    let next : bit_xor (times_x r) t < 65536 = xor_lt 16 (times_x r) t (times_x_lt r) (omega arith) in
    ap (λ (x : ℕ). divide x (terms k b)) (bring r t h bit) ∙ divide_terms k b (bit_xor (times_x r) t) (omega arith) next
    ∙ ap (λ (x : ℕ). bit_xor x (b % 2 ^ k)) (times_xor k (times_x r) t)
    ∙ xor_assoc (times k (times_x r)) (times k t) (b % 2 ^ k)
    ∙ ap (bit_xor (times k (times_x r)))
    (ap (λ (x : ℕ). bit_xor x (b % 2 ^ k)) (times_small k t fits) ∙ xor_shifted t k (b % 2 ^ k) (mod-lt b (pow_pos k))
    ∙ sym (mod-pow-add b 1 k) ∙ ap (λ (n : ℕ). b % 2 ^ n) (one-add k))

divide_terms_lt : (b r : ℕ) → r < 65536 → divide r (terms 8 b) < 65536
divide_terms_lt b r h =
    rw (divide_terms 8 b r (le_refl 8) h) (xor_lt 16 (times 8 r) (b % 256) (times_lt 8 r h) (omega arith))

divide_terms_of_lt : (s : List ℕ) (r : ℕ) → r < 65536 → divide r (terms_of s) < 65536
unfolding terms_of divide
divide_terms_of_lt [] r h = h
divide_terms_of_lt (b ∷ s) r h = rw divide_append (divide_terms_of_lt s (divide r (terms 8 b)) (divide_terms_lt b r h))

-- a byte in long division, moved past sixteen zeros, is a step of the guard
step_byte_lem : (r b : ℕ) → r < 65536 → step_byte (times 16 r) b ≡ times 16 (divide r (terms 8 b))
unfolding step_byte times
step_byte_lem r b h =
    times_xor 8 (times 16 r) (b % 256 * 256)
    ∙ ap (λ (x : ℕ). bit_xor (times 24 r) (times 8 x)) (sym (times_small 8 (b % 256) (omega arith)))
    ∙ sym (ap (times 16) (divide_terms 8 b r (le_refl 8) h) ∙ times_xor 16 (times 8 r) (b % 256))

step_all : (s : List ℕ) (r : ℕ) → r < 65536 → guard_from (times 16 r) s ≡ times 16 (divide r (terms_of s))
unfolding guard_from divide terms_of
step_all [] r h = refl
step_all (b ∷ s) r h =
    ap (λ (x : ℕ). guard_from x s) (step_byte_lem r b h) ∙ step_all s (divide r (terms 8 b)) (divide_terms_lt b r h)
    ∙ ap (times 16) (sym (divide_append r (terms 8 b) (terms_of s)))

-- the guard of the document is the guard from the remainder 0
pub guard_from_zero : (s : List ℕ) → guard s ≡ guard_from 0 s
unfolding guard times times_x
guard_from_zero s =
    divide_append 0 (terms_of s) (replicate 16 0) ∙ divide_zeros 16 (divide 0 (terms_of s)) (divide_terms_of_lt s 0 (lit< tt))
    ∙ sym (step_all s 0 (lit< tt))

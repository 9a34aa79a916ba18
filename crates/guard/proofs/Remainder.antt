-- The laws of the guard from a starting remainder: bounds, exclusive or, joining, zeros. Each holds for every number.
-- Assumes nothing.
use mathlib.Core.Path.{◌≡◌, refl, sym, ap, ap₂, ◌∙◌}
use mathlib.Core.List.{List, [], ◌∷◌, ◌++◌}
use Prim.Native.Nat.{ℕ, zero, suc, ◌+◌, ◌*◌, ◌/◌, ◌%◌, ◌^◌, ◌<◌, ◌≤◌}
use native.Mathlib.Nat.{suc_inj, mod-lt, mul_assoc, mul-one, mul-le-mul_left, one-le-pow, zero-mul, zero-add, suc-add, pow-succ'}
use native.Mathlib.Omega.{arith}
use lib.Bits.{bit_xor, xor_lt, xor_mod, xor_shr, xor_zero_l, xor_zero_r, xor_self}
use lib.Dec.{lit<}
use lib.ListN.{length, get_or, drop, replicate, drop_of_length-le}
use Rattle.words.specs.Xor.{xors}
use Rattle.words.proofs.Parts.{drop_next}
use Rattle.words.proofs.BitXor.{xor_swap, xor_shl}
use Rattle.guard.specs.Remainder.{times_x, times, step_byte, guard_from}

-- ---- results are below 2^16
pub times_x_lt : (r : ℕ) → times_x r < 65536
unfolding times_x
times_x_lt r = xor_lt 16 (r * 2 % 65536) (r / 32768 % 2 * 0x8BB7) (mod-lt (r * 2) (lit< tt)) (omega arith)

pub times_lt : (n r : ℕ) → r < 65536 → times n r < 65536
unfolding times
times_lt zero r h = h
times_lt (suc n) r h = times_lt n (times_x r) (times_x_lt r)

pub step_byte_lt : (r b : ℕ) → step_byte r b < 65536
unfolding step_byte times
step_byte_lt r b = times_x_lt _

pub guard_from_lt : (s : List ℕ) (r : ℕ) → r < 65536 → guard_from r s < 65536
unfolding guard_from
guard_from_lt [] r h = h
guard_from_lt (b ∷ s) r h = guard_from_lt s (step_byte r b) (step_byte_lt r b)

-- ---- of an exclusive or, the exclusive or
bit_times : (u v d : ℕ) → u < 2 → v < 2 → bit_xor u v * d ≡ bit_xor (u * d) (v * d)
bit_times zero v d hu hv = rw (zero-mul, xor_zero_l)
bit_times (suc zero) zero d hu hv = sym (ap (bit_xor (1 * d)) (zero-mul d) ∙ xor_zero_r (1 * d))
bit_times (suc zero) (suc zero) d hu hv = rw (zero-mul, xor_self)
bit_times (suc zero) (suc (suc v)) d hu hv = absurd (omega arith)
bit_times (suc (suc u)) v d hu hv = absurd (omega arith)

pub times_x_xor : (a b : ℕ) → times_x (bit_xor a b) ≡ bit_xor (times_x a) (times_x b)
unfolding times_x
times_x_xor a b =
    ap₂ bit_xor
    (ap (λ (x : ℕ). x % 65536) (xor_shl 1 a b) ∙ xor_mod (a * 2) (b * 2) 16)
    (ap (λ (x : ℕ). x % 2 * 0x8BB7) (xor_shr a b 15) ∙ ap (λ (x : ℕ). x * 0x8BB7) (xor_mod (a / 32768) (b / 32768) 1)
    ∙ bit_times (a / 32768 % 2) (b / 32768 % 2) 0x8BB7 (mod-lt (a / 32768) (lit< tt)) (mod-lt (b / 32768) (lit< tt)))
    ∙ xor_swap (a * 2 % 65536) (b * 2 % 65536) (a / 32768 % 2 * 0x8BB7) (b / 32768 % 2 * 0x8BB7)

pub times_xor : (n a b : ℕ) → times n (bit_xor a b) ≡ bit_xor (times n a) (times n b)
unfolding times
times_xor zero a b = refl
times_xor (suc n) a b = ap (times n) (times_x_xor a b) ∙ times_xor n (times_x a) (times_x b)

pub step_byte_xor : (r s a b : ℕ) → step_byte (bit_xor r s) (bit_xor a b) ≡ bit_xor (step_byte r a) (step_byte s b)
unfolding step_byte
step_byte_xor r s a b =
    ap (times 8)
    (ap (bit_xor (bit_xor r s)) (ap (λ (x : ℕ). x * 256) (xor_mod a b 8) ∙ xor_shl 8 (a % 256) (b % 256))
    ∙ xor_swap r s (a % 256 * 256) (b % 256 * 256))
    ∙ times_xor 8 (bit_xor r (a % 256 * 256)) (bit_xor s (b % 256 * 256))

pub guard_from_xors : (a b : List ℕ) (r s : ℕ) → length a ≡ length b → guard_from (bit_xor r s) (xors a b) ≡ bit_xor (guard_from r a) (guard_from s b)
unfolding guard_from xors
guard_from_xors [] [] r s h = refl
guard_from_xors [] (y ∷ b) r s h = absurd (omega arith)
guard_from_xors (x ∷ a) [] r s h = absurd (omega arith)
guard_from_xors (x ∷ a) (y ∷ b) r s h =
    ap (λ (k : ℕ). guard_from k (xors a b)) (step_byte_xor r s x y) ∙ guard_from_xors a b (step_byte r x) (step_byte s y) (suc_inj h)

-- ---- of joined lists, and past zero bytes
pub guard_from_append : (a b : List ℕ) (r : ℕ) → guard_from r (a ++ b) ≡ guard_from (guard_from r a) b
unfolding guard_from
guard_from_append [] b r = refl
guard_from_append (x ∷ a) b r = guard_from_append a b (step_byte r x)

pub step_byte_zero : (r : ℕ) → step_byte r 0 ≡ times 8 r
unfolding step_byte
step_byte_zero r = ap (times 8) (xor_zero_r r)

pub times_add : (m n r : ℕ) → times (m + n) r ≡ times n (times m r)
unfolding times
times_add zero n r = ap (λ (k : ℕ). times k r) (zero-add n)
times_add (suc m) n r = ap (λ (k : ℕ). times k r) (suc-add m n) ∙ times_add m n (times_x r)

pub guard_from_zeros : (n r : ℕ) → guard_from r (replicate n 0) ≡ times (n * 8) r
unfolding guard_from times
guard_from_zeros zero r = refl
guard_from_zeros (suc n) r =
    ap (λ (k : ℕ). guard_from k (replicate n 0)) (step_byte_zero r) ∙ guard_from_zeros n (times 8 r)
    ∙ sym (times_add 8 (n * 8) r) ∙ ap (λ (k : ℕ). times k r) (let e : 8 + n * 8 ≡ suc n * 8 = omega arith in e)

-- ---- in a loop from the front: what is left gives what the whole gives
pub guard_next : (s : List ℕ) (r i g : ℕ) → i < length s → guard_from r (drop i s) ≡ g → guard_from (step_byte r (get_or s i 0)) (drop (i + 1) s) ≡ g
unfolding guard_from
guard_next s r i g h e = sym (ap (guard_from r) (drop_next s i 0 h)) ∙ e

pub guard_end : (s : List ℕ) (r i g : ℕ) → length s ≤ i → guard_from r (drop i s) ≡ g → r ≡ g
unfolding guard_from
guard_end s r i g h e = sym (ap (guard_from r) (drop_of_length-le s h)) ∙ e

-- ---- where nothing reaches x^16, times x is a doubling
times_x_small : (r : ℕ) → r < 32768 → times_x r ≡ r * 2
unfolding times_x
times_x_small r h =
    let high : r / 32768 % 2 * 0x8BB7 ≡ 0 = omega arith in
    let low : r * 2 % 65536 ≡ r * 2 = omega arith in
    rw (high, low, xor_zero_r)

pub times_small : (k r : ℕ) → r * 2 ^ k < 65536 → times k r ≡ r * 2 ^ k
unfolding times
times_small zero r h = sym (mul-one r)
times_small (suc k) r h =
    let twice : r * 2 ^ suc k ≡ r * 2 * 2 ^ k = rw (pow-succ', mul_assoc) in
    let fits : r * 2 * 2 ^ k < 65536 = rw twice at h in
    let low : r * 2 ≤ r * 2 * 2 ^ k = rw mul-one at (mul-le-mul_left (r * 2) (one-le-pow k 2 (lit< tt))) in
    rw twice (ap (times k) (times_x_small r (omega arith)) ∙ times_small k (r * 2) fits)

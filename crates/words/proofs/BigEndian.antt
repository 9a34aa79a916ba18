-- The laws of numbers in bytes, over any number of bytes.
-- Assumes nothing.
use mathlib.Core.Path.{◌≡◌, refl, sym, ap, ap₂, ◌∙◌}
use mathlib.Core.List.{List, [], ◌∷◌, ◌++◌, append_assoc, append-nil}
use Prim.Native.Nat.{ℕ, zero, suc, ◌+◌, ◌-◌, ◌*◌, ◌/◌, ◌%◌, ◌^◌, ◌<◌, ◌≤◌}
use native.Mathlib.Nat.{suc_inj, pow-suc, add-zero, add-suc, add_assoc, add-mul, suc-add, zero-add, mul_assoc, mul-one, lt_of_lt_of_le, div-lt_iff_lt-mul, div-add-mod', mod-lt, le_refl, pow-le-pow_right}
use native.Mathlib.Numerals.{add-one}
use native.Mathlib.Omega.{arith}
use lib.Arith.{digits_lt}
use lib.Bits.{bit_xor, xor_block}
use lib.Dec.{lit<}
use lib.ListN.{length, get_or, take, drop, set, length-append, length-set, length-take, length-drop, drop_of_length-le}
use lib.Seq.{drop-set-lt, get_or-set_same, drop-cons, take_at, drop_at}
use Rattle.std.specs.Int.{from_be_bytes, w16, w32}
use Rattle.words.specs.BigEndian.{number_from, number, number_at, bytes}
use borrow.Rule.Slice.PartMut.{mid_of, put_mid}
use Rattle.words.specs.Parts.{Bytes, put}
use Rattle.words.specs.Xor.{xors}
use Rattle.words.proofs.Parts.{drop_next, part_at, part_bytes, append_bytes, put_back}

-- ---- reading

-- one byte more
pub read_next : (s : List ℕ) (n i r : ℕ) → i < length s → number_from n (drop i s) ≡ r → number_from (n * 256 + get_or s i 0) (drop (i + 1) s) ≡ r
unfolding number_from
read_next s n i r h e = sym (ap (number_from n) (drop_next s i 0 h)) ∙ e

pub read_end : (s : List ℕ) (n i r : ℕ) → length s ≤ i → number_from n (drop i s) ≡ r → n ≡ r
unfolding number_from
read_end s n i r h e = sym (ap (number_from n) (drop_of_length-le s h)) ∙ e

-- i bytes make a number below 256 ^ i
pub grown : (n b i : ℕ) → n < 256 ^ i → b < 256 → n * 256 + b < 256 ^ (i + 1)
grown n b i hn hb = rw (add-one, pow-suc) (digits_lt hn hb)

-- fewer than eight bytes leave room for one more in 64 bits
pub room : (n i : ℕ) → n < 256 ^ i → i < 8 → n < 2 ^ 56
room n i h l = lt_of_lt_of_le h (pow-le-pow_right (lit< tt) {i = i} {j = 7} (omega arith))

number_from_lt : (s : List ℕ) (n i : ℕ) → n < 256 ^ i → Bytes s → number_from n s < 256 ^ (i + length s)
unfolding number_from
number_from_lt [] n i h p = rw add-zero h
number_from_lt (b ∷ s) n i h p =
    rw (add-suc, ← suc-add, ← add-one i) (number_from_lt s (n * 256 + b) (i + 1) (grown n b i h (p 0)) (λ j. p (suc j)))

pub number_lt : (s : List ℕ) → Bytes s → number s < 256 ^ length s
unfolding number
number_lt s p = rw zero-add at (number_from_lt s 0 0 (lit< tt) p)

-- ---- of two lists, joined or under exclusive or
pub number_from_append : (n : ℕ) (s t : List ℕ) → number_from n (s ++ t) ≡ number_from (number_from n s) t
unfolding number_from
number_from_append n [] t = refl
number_from_append n (b ∷ s) t = number_from_append (n * 256 + b) s t

number_from_xors : (a b : List ℕ) (m n : ℕ) → length a ≡ length b → Bytes a → Bytes b → number_from (bit_xor m n) (xors a b) ≡ bit_xor (number_from m a) (number_from n b)
unfolding number_from xors
number_from_xors [] [] m n h p q = refl
number_from_xors [] (y ∷ b) m n h p q = absurd (omega arith)
number_from_xors (x ∷ a) [] m n h p q = absurd (omega arith)
number_from_xors (x ∷ a) (y ∷ b) m n h p q =
    ap (λ (k : ℕ). number_from k (xors a b)) (sym (xor_block 8 m n x y (p 0) (q 0)))
    ∙ number_from_xors a b (m * 256 + x) (n * 256 + y) (suc_inj h) (λ j. p (suc j)) (λ j. q (suc j))

pub number_xors : (a b : List ℕ) → length a ≡ length b → Bytes a → Bytes b → number (xors a b) ≡ bit_xor (number a) (number b)
unfolding number
number_xors a b h p q = number_from_xors a b 0 0 h p q

-- ---- writing
pub bytes_length : (w n : ℕ) → length (bytes w n) ≡ w
unfolding bytes
bytes_length zero n = refl
bytes_length (suc w) n = length-append (bytes w (n / 256)) (n % 256 ∷ []) ∙ rw (bytes_length w (n / 256)) (add-one w)

one_byte : (b : ℕ) → b < 256 → Bytes (b ∷ [])
one_byte b h zero = h
one_byte b h (suc i) = lit< tt

pub bytes_bytes : (w n : ℕ) → Bytes (bytes w n)
unfolding bytes
bytes_bytes zero n = λ i. lit< tt
bytes_bytes (suc w) n = append_bytes (bytes w (n / 256)) _ (bytes_bytes w (n / 256)) (one_byte (n % 256) (mod-lt n (lit< tt)))

-- the lowest byte that is left, stored before what is done
pub write_next : (d whole : List ℕ) (i n : ℕ) → 0 < i → i ≤ length d → bytes i n ++ drop i d ≡ whole → bytes (i - 1) (n / 256) ++ drop (i - 1) (set d (i - 1) (n % 256)) ≡ whole
unfolding bytes
write_next d whole zero n h l e = absurd (omega arith)
write_next d whole (suc i) n h l e =
    let down : suc i - 1 ≡ i = omega arith in
    let within : i < length (set d i (n % 256)) = rw length-set l in
    rw (down, drop-cons (set d i (n % 256)) i 0 within, get_or-set_same d i (n % 256) 0 l, drop-set-lt (suc i) d i (n % 256) (le_refl (suc i)))
    (sym (append_assoc (bytes i (n / 256)) (n % 256 ∷ []) (drop (suc i) d)) ∙ e)

high_byte : (n b : ℕ) → b < 256 → (n * 256 + b) / 256 ≡ n
high_byte n b h = omega arith

low_byte : (n b : ℕ) → b < 256 → (n * 256 + b) % 256 ≡ b
low_byte n b h = omega arith

higher : (h l p : ℕ) → h * (p * 256) + l ≡ (h * p + l / 256) * 256 + l % 256
higher h l p = rw (add-mul, add_assoc, div-add-mod' l 256, mul_assoc)

-- two numbers, the lower one of w bytes: written one behind the other they are one number
pub bytes_joined : (v w h l : ℕ) → l < 256 ^ w → bytes (v + w) (h * 256 ^ w + l) ≡ bytes v h ++ bytes w l
unfolding bytes
bytes_joined v zero h l b = let none : l ≡ 0 = omega arith in rw (none, mul-one, add-zero v, add-zero h, append-nil)
bytes_joined v (suc w) h l b =
    let x = h * 256 ^ w + l / 256 in
    let n : h * 256 ^ suc w + l ≡ x * 256 + l % 256 = rw pow-suc (higher h l (256 ^ w)) in
    let low = mod-lt l (lit< tt) in
    rw (add-suc, n, high_byte x (l % 256) low, low_byte x (l % 256) low)
    (ap (λ (s : List ℕ). s ++ (l % 256 ∷ [])) (bytes_joined v w h (l / 256) ((div-lt_iff_lt-mul (lit< tt)).1 (rw pow-suc at b)))
    ∙ append_assoc (bytes v h) (bytes w (l / 256)) (l % 256 ∷ []))

-- what is written reads back
pub number_bytes : (w n : ℕ) → n < 256 ^ w → number (bytes w n) ≡ n
unfolding number number_from bytes
number_bytes zero n h = omega arith
number_bytes (suc w) n h =
    number_from_append 0 (bytes w (n / 256)) (n % 256 ∷ [])
    ∙ ap (λ (k : ℕ). k * 256 + n % 256) (number_bytes w (n / 256) ((div-lt_iff_lt-mul (lit< tt)).1 (rw pow-suc at h)))
    ∙ div-add-mod' n 256

-- what is read is written back
bytes_number_from : (s : List ℕ) (i n : ℕ) → Bytes s → bytes (i + length s) (number_from n s) ≡ bytes i n ++ s
unfolding number_from bytes
bytes_number_from [] i n p = rw (add-zero, append-nil)
bytes_number_from (b ∷ s) i n p =
    let longer : i + suc (length s) ≡ suc i + length s = omega arith in
    ap (λ (k : ℕ). bytes k (number_from (n * 256 + b) s)) longer
    ∙ bytes_number_from s (suc i) (n * 256 + b) (λ j. p (suc j))
    ∙ ap₂ (λ (h l : ℕ). (bytes i h ++ (l ∷ [])) ++ s) (high_byte n b (p 0)) (low_byte n b (p 0))
    ∙ append_assoc (bytes i n) (b ∷ []) s

pub bytes_number : (w : ℕ) (s : List ℕ) → length s ≡ w → Bytes s → bytes w (number s) ≡ s
unfolding number bytes
bytes_number w s e p = ap (λ (k : ℕ). bytes k (number s)) (sym e ∙ sym (zero-add (length s))) ∙ bytes_number_from s 0 0 p

-- ---- w bytes from a place on

-- a number that was written at a place is the number read there
pub number_there : (at w n : ℕ) (a b : List ℕ) → length a ≡ at → n < 256 ^ w → number_at at w (a ++ (bytes w n ++ b)) ≡ n
unfolding number_at
number_there at w n a b e h =
    ap (λ (l : List ℕ). number (take w l)) (drop_at a (bytes w n ++ b) at e)
    ∙ ap number (take_at (bytes w n) b w (bytes_length w n)) ∙ number_bytes w n h

-- and the number that is read at a place is written there
pub bytes_there : (at w : ℕ) (s : List ℕ) → at + w ≤ length s → Bytes s → bytes w (number_at at w s) ≡ take w (drop at s)
unfolding number_at
bytes_there at w s h p = bytes_number w (take w (drop at s)) (simp (length-take, length-drop) (omega arith)) (part_bytes at w s p)

pub part_length : (at w : ℕ) (s : List ℕ) → at + w ≤ length s → length (take (at + w - at) (drop at s)) ≡ w
part_length at w s h = simp (length-take, length-drop) (omega arith)

pub read_at : (at w r : ℕ) (s : List ℕ) → r ≡ number (take (at + w - at) (drop at s)) → r ≡ number_at at w s
unfolding number_at
read_at at w r s e = e ∙ ap number (part_at at w s)

-- the numbers that std reads from two and from four bytes
pub two_there : (at : ℕ) (s : List ℕ) → at + 2 ≤ length s → number_at at 2 s ≡ from_be_bytes w16 (get_or s at 0 ∷ get_or s (at + 1) 0 ∷ [])
unfolding number_at number number_from
two_there at s h =
    rw (drop_next s at 0 (omega arith), drop_next s (at + 1) 0 (omega arith)) (omega arith)

pub four_there : (at : ℕ) (s : List ℕ) → at + 4 ≤ length s
    → number_at at 4 s ≡ from_be_bytes w32 (get_or s at 0 ∷ get_or s (at + 1) 0 ∷ get_or s (at + 2) 0 ∷ get_or s (at + 3) 0 ∷ [])
unfolding number_at number number_from
four_there at s h =
    let third : at + 1 + 1 ≡ at + 2 = omega arith in
    let fourth : at + 2 + 1 ≡ at + 3 = omega arith in
    rw (drop_next s at 0 (omega arith), drop_next s (at + 1) 0 (omega arith), third, drop_next s (at + 2) 0 (omega arith), fourth, drop_next s (at + 3) 0 (omega arith))
    (omega arith)

pub put_part : (at w n : ℕ) (d new : List ℕ) → at + w ≤ length d → new ≡ bytes (length (mid_of at (at + w - at) d)) n → put_mid at (at + w - at) d new ≡ put at (bytes w n) d
put_part at w n d new h e =
    let made : new ≡ bytes w n = e ∙ ap (λ (k : ℕ). bytes k n) (part_length at w d h) in
    let long : length (bytes w n) ≡ at + w - at = bytes_length w n ∙ omega arith in
    rw made (put_back at (at + w) d (bytes w n) (omega arith) long)

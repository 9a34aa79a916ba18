-- The guard two bytes at a time: one test over all numbers of the rows gives their rule, and the rule gives the guard.
-- Assumes nothing.
use mathlib.Core.Path.{◌≡◌, refl, sym, ap, ap₂, ◌∙◌}
use mathlib.Core.Bool.{Bool}
use mathlib.Core.List.{List, [], ◌∷◌}
use Prim.Native.Nat.{ℕ, ◌+◌, ◌*◌, ◌/◌, ◌%◌, ◌^◌, ◌<◌, ◌≤◌}
use native.Mathlib.Nat.{mod-lt, lt_of_lt_of_le, mul-one, zero-add, mul-le-mul, pow-le-pow_right}
use native.Mathlib.Omega.{arith}
use lib.Bits.{bit_xor, xor_lt, xor_shifted, xor_comm, xor_zero_l}
use lib.Dec.{T, lit<, lit≤, eqb, eqb→eq}
use lib.ListN.{length, get_or, take, drop}
use Rattle.words.specs.BigEndian.{number_from, number, number_at}
use Rattle.words.proofs.BitXor.{xor_assoc}
use Rattle.words.proofs.Every.{every, each}
use Rattle.words.proofs.Parts.{drop_next}
use Rattle.guard.specs.Guard.{guard}
use Rattle.guard.specs.Remainder.{times_x, times, step_byte, guard_from}
use Rattle.guard.specs.Rows.{two_bytes, RightRows, rows_step}
use Rattle.guard.proofs.Remainder.{times_xor, times_small, times_add, step_byte_lt, guard_next}
use Rattle.guard.proofs.Division.{guard_from_zero}

-- the rows' rule, as a test
abbrev pub rule : ℕ → ℕ → Bool
rule i x = eqb x (guard (two_bytes (i % 16 * 16 ^ (i / 16))))

pub right : (w : List ℕ) → T (every rule 0 w) → 64 ≤ length w → RightRows w
right w p l = record { entry = λ i h. eqb→eq _ _ (each rule w p i (lt_of_lt_of_le h l)) }

-- two bytes more: the remainder meets both, and all is moved past sixteen zeros
pub two_steps : (r a b : ℕ) → a < 256 → b < 256 → step_byte (step_byte r a) b ≡ times 16 (bit_xor r (a * 256 + b))
unfolding step_byte
two_steps r a b ha hb =
    let first : a % 256 ≡ a = omega arith in
    let second : b % 256 ≡ b = omega arith in
    rw (first, second)
    (times_xor 8 (times 8 (bit_xor r (a * 256))) (b * 256)
    ∙ ap₂ bit_xor (sym (times_add 8 8 (bit_xor r (a * 256)))) (ap (times 8) (sym (times_small 8 b (omega arith))) ∙ sym (times_add 8 8 b))
    ∙ sym (times_xor 16 (bit_xor r (a * 256)) b)
    ∙ ap (times 16) (xor_assoc r (a * 256) b ∙ ap (bit_xor r) (xor_shifted a 8 b hb)))

pub two_guard : (v : ℕ) → v < 65536 → guard (two_bytes v) ≡ times 16 v
unfolding guard_from
two_guard v h =
    let both : v / 256 * 256 + v % 256 ≡ v = omega arith in
    guard_from_zero (two_bytes v)
    ∙ two_steps 0 (v / 256) (v % 256) (omega arith) (mod-lt v (lit< tt))
    ∙ ap (times 16) (xor_zero_l _ ∙ both)

zero_byte : step_byte 0 0 ≡ 0
unfolding step_byte times times_x
zero_byte = refl

-- the half bytes of a number, and how exclusive or joins them
low : (v : ℕ) → v % 16 < 16
low v = mod-lt v (lit< tt)

high : (v : ℕ) → v < 65536 → v / 4096 < 16
high v h = omega arith

two_halves : (v : ℕ) → v / 16 % 16 * 16 + v % 16 ≡ v % 256
two_halves v = omega arith

three_halves : (v : ℕ) → v / 256 % 16 * 256 + v % 256 ≡ v % 4096
three_halves v = omega arith

all_halves : (v : ℕ) → v / 4096 * 4096 + v % 4096 ≡ v
all_halves v = omega arith

joined : (a k b : ℕ) → b < 2 ^ k → bit_xor b (a * 2 ^ k) ≡ a * 2 ^ k + b
joined a k b h = xor_comm b (a * 2 ^ k) ∙ xor_shifted a k b h

halves : (v : ℕ) → bit_xor (bit_xor (bit_xor (v % 16) (v / 16 % 16 * 16)) (v / 256 % 16 * 256)) (v / 4096 * 4096) ≡ v
halves v =
    ap (λ (x : ℕ). bit_xor (bit_xor x (v / 256 % 16 * 256)) (v / 4096 * 4096)) (joined (v / 16 % 16) 4 (v % 16) (low v) ∙ two_halves v)
    ∙ ap (λ (x : ℕ). bit_xor x (v / 4096 * 4096)) (joined (v / 256 % 16) 8 (v % 256) (mod-lt v (lit< tt)) ∙ three_halves v)
    ∙ joined (v / 4096) 12 (v % 4096) (mod-lt v (lit< tt))
    ∙ all_halves v

-- the number of two bytes in a row
pair : (s : List ℕ) (i : ℕ) → i + 2 ≤ length s → number_at i 2 s ≡ get_or s i 0 * 256 + get_or s (i + 1) 0
unfolding number_at number number_from
pair s i h = rw (drop_next s i 0 (omega arith), drop_next s (i + 1) 0 (omega arith)) (omega arith)

module _ (w : List ℕ) (rows : RightRows w) where
  -- number n of row k
  number_of : (k n : ℕ) → k ≤ 3 → n < 16 → get_or w (16 * k + n) 0 ≡ times 16 (n * 16 ^ k)
  number_of k n l h =
      let row : (16 * k + n) / 16 ≡ k = omega arith in
      let column : (16 * k + n) % 16 ≡ n = omega arith in
      let few : n ≤ 15 = omega arith in
      let most : n * 16 ^ k ≤ 15 * 16 ^ 3 = mul-le-mul few (pow-le-pow_right (lit< tt) l) in
      rows.entry (16 * k + n) (omega arith) ∙ ap₂ (λ (x y : ℕ). guard (two_bytes (x * 16 ^ y))) column row
      ∙ two_guard (n * 16 ^ k) (omega arith)

  pub rows_step_lem : (v : ℕ) → v < 65536 → rows_step w v ≡ times 16 v
  unfolding rows_step
  rows_step_lem v h =
      ap₂ bit_xor
      (ap₂ bit_xor
      (ap₂ bit_xor (rw (zero-add, mul-one) at (number_of 0 (v % 16) (lit≤ tt) (low v))) (number_of 1 (v / 16 % 16) (lit≤ tt) (low (v / 16)))
      ∙ sym (times_xor 16 _ _))
      (number_of 2 (v / 256 % 16) (lit≤ tt) (low (v / 256)))
      ∙ sym (times_xor 16 _ _))
      (number_of 3 (v / 4096) (lit≤ tt) (high v h))
      ∙ sym (times_xor 16 _ _)
      ∙ ap (times 16) (halves v)

  -- in a loop: two bytes more leave a remainder, and what is left gives what the whole gives
  pub rows_next : (s : List ℕ) (r n i v g : ℕ) → r < 65536 → i + 2 ≤ length s → get_or s i 0 < 256 → get_or s (i + 1) 0 < 256 → v ≡ number_at i 2 s
      → n ≡ rows_step w (bit_xor r v) → guard_from r (drop i s) ≡ g → (n < 65536) × (guard_from n (drop (i + 2) s) ≡ g)
  rows_next s r n i v g h here ha hb ev e same =
      let a = get_or s i 0 in
      let b = get_or s (i + 1) 0 in
      let met : bit_xor r (a * 256 + b) < 65536 = xor_lt 16 r (a * 256 + b) h (omega arith) in
      let by : n ≡ step_byte (step_byte r a) b = e ∙ ap (λ (x : ℕ). rows_step w (bit_xor r x)) (ev ∙ pair s i here) ∙ rows_step_lem _ met ∙ sym (two_steps r a b ha hb) in
      let on : i + 1 + 1 ≡ i + 2 = omega arith in (
        rw by (step_byte_lt (step_byte r a) b),
        rw by (rw on at (guard_next s (step_byte r a) (i + 1) g (omega arith) (guard_next s r i g (omega arith) same))),
      )

  -- the first byte alone
  pub rows_first : (s : List ℕ) (n : ℕ) → 0 < length s → get_or s 0 0 < 256 → n ≡ rows_step w (get_or s 0 0) → n ≡ guard (take 1 s)
  unfolding guard_from
  rows_first [] n h hb e = absurd (omega arith)
  rows_first (b ∷ s) n h hb e =
      let alone : 0 * 256 + b ≡ b = omega arith in
      e ∙ rows_step_lem b (omega arith) ∙ ap (times 16) (sym (xor_zero_l _ ∙ alone)) ∙ sym (two_steps 0 0 b (lit< tt) hb)
      ∙ ap (λ (r : ℕ). step_byte r b) zero_byte ∙ sym (guard_from_zero (b ∷ []))

-- The guard through a table: one test over all entries gives the table's rule, and the rule gives the guard.
-- Assumes nothing.
use mathlib.Core.Path.{◌≡◌, refl, sym, ap, ap₂, ◌∙◌}
use mathlib.Core.Bool.{Bool}
use mathlib.Core.List.{List, [], ◌∷◌}
use Prim.Native.Nat.{ℕ, suc, ◌+◌, ◌*◌, ◌/◌, ◌%◌, ◌<◌, ◌≤◌}
use native.Mathlib.Nat.{mod-lt, mod-eq_of_lt, lt_of_lt_of_le, div-add-mod', add-zero}
use native.Mathlib.Omega.{arith}
use lib.Bits.{bit_xor, xor_lt, xor_block, xor_shifted, xor_comm, xor_zero_r}
use lib.Dec.{T, lit<, eqb, eqb→eq}
use lib.ListN.{length, get_or, drop}
use Rattle.words.specs.Parts.{Bytes}
use Rattle.words.proofs.Every.{every, each}
use Rattle.guard.specs.Guard.{guard}
use Rattle.guard.specs.Remainder.{times, step_byte, guard_from}
use Rattle.guard.specs.Table.{Right, table_step, through}
use Rattle.guard.proofs.Remainder.{times_xor, times_small, step_byte_lt, guard_next}
use Rattle.guard.proofs.Division.{guard_from_zero}

-- "entry v being the guard of the single byte v", as a test
abbrev pub rule : ℕ → ℕ → Bool
rule v x = eqb x (guard (v ∷ []))

pub right : (t : List ℕ) → T (every rule 0 t) → 256 ≤ length t → Right t
right t p l = record { entry = λ v h. eqb→eq _ _ (each rule t p v (lt_of_lt_of_le h l)) }

-- the data byte meets the high byte of the remainder
meet : (r b : ℕ) → b < 256 → bit_xor r (b % 256 * 256) ≡ bit_xor (r % 256) (bit_xor (r / 256) b * 256)
meet r b h =
    ap₂ bit_xor (sym (div-add-mod' r 256)) (ap (λ (x : ℕ). x * 256) (mod-eq_of_lt h) ∙ sym (add-zero (b * 256)))
    ∙ xor_block 8 (r / 256) b (r % 256) 0 (mod-lt r (lit< tt)) (lit< tt)
    ∙ ap (λ (x : ℕ). bit_xor (r / 256) b * 256 + x) (xor_zero_r (r % 256))
    ∙ sym (xor_shifted (bit_xor (r / 256) b) 8 (r % 256) (mod-lt r (lit< tt)))
    ∙ xor_comm (bit_xor (r / 256) b * 256) (r % 256)

single : (v : ℕ) → v < 256 → times 8 (v * 256) ≡ guard (v ∷ [])
unfolding guard_from step_byte
single v h = ap (λ (x : ℕ). times 8 (x * 256)) (sym (mod-eq_of_lt h)) ∙ sym (guard_from_zero (v ∷ []))

-- a table step: what they chose joins the low byte, moved up past them
pub step : (r b : ℕ) → r < 65536 → b < 256 → step_byte r b ≡ bit_xor (r % 256 * 256) (guard (bit_xor (r / 256) b ∷ []))
unfolding step_byte
step r b h hb =
    ap (times 8) (meet r b hb) ∙ times_xor 8 (r % 256) (bit_xor (r / 256) b * 256)
    ∙ ap₂ bit_xor (times_small 8 (r % 256) (omega arith)) (single (bit_xor (r / 256) b) (xor_lt 8 (r / 256) b (omega arith) hb))

table_step_lem : (t : List ℕ) (r b : ℕ) → Right t → r < 65536 → b < 256 → table_step t r b ≡ step_byte r b
unfolding table_step
table_step_lem t r b right h hb =
    ap (bit_xor (r % 256 * 256)) (right.entry (bit_xor (r / 256) b) (xor_lt 8 (r / 256) b (omega arith) hb)) ∙ sym (step r b h hb)

-- in a loop through a right table: a byte more leaves a remainder, and what is left gives what the whole gives
pub table_next : (t s : List ℕ) (r n i g : ℕ) → Right t → r < 65536 → i < length s → get_or s i 0 < 256 → n ≡ table_step t r (get_or s i 0) → guard_from r (drop i s) ≡ g → (n < 65536) × (guard_from n (drop (i + 1) s) ≡ g)
table_next t s r n i g right h here byte step e =
    let by : n ≡ step_byte r (get_or s i 0) = step ∙ table_step_lem t r _ right h byte in
    (rw by (step_byte_lt r _), rw by (guard_next s r i g here e))

through_from : (t s : List ℕ) (r : ℕ) → Right t → r < 65536 → Bytes s → through t r s ≡ guard_from r s
unfolding through guard_from
through_from t [] r right h p = refl
through_from t (b ∷ s) r right h p =
    ap (λ (x : ℕ). through t x s) (table_step_lem t r b right h (p 0))
    ∙ through_from t s (step_byte r b) right (step_byte_lt r b) (λ i. p (suc i))

-- "both ways agree for every input": long division is the guard, and so is the way through a right table
pub agree : (t s : List ℕ) → Right t → Bytes s → through t 0 s ≡ guard s
agree t s right p = through_from t s 0 right (lit< tt) p ∙ sym (guard_from_zero s)

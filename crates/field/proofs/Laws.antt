-- The laws of an interval's parts, its data and its field, wherever they stand; and of field bytes, as code writes them.
-- Assumes nothing.
use mathlib.Core.Path.{◌≡◌, refl, ap, ◌∙◌}
use mathlib.Core.List.{List, ◌++◌, append_assoc}
use Prim.Native.Nat.{ℕ, ◌+◌, ◌-◌, ◌*◌, ◌^◌, ◌<◌, ◌≤◌}
use native.Mathlib.Nat.{add_assoc}
use native.Mathlib.Omega.{arith}
use lib.Bits.{bit_xor}
use lib.ListN.{length, take, drop, length-append, length-take, length-drop}
use lib.Seq.{drop-drop, drop_at, take_at, take-take}
use Rattle.words.specs.BigEndian.{number, number_at, bytes}
use Rattle.words.specs.Parts.{Bytes}
use Rattle.words.specs.Xor.{xors}
use Rattle.words.proofs.BigEndian.{bytes_length, bytes_joined, number_xors}
use Rattle.words.proofs.Parts.{part_at, drop_take, take_bytes, part_bytes}
use Rattle.words.proofs.Runs.{peel_within}
use Rattle.words.proofs.Xor.{xors_take, xors_drop}
use Rattle.field.specs.Field.{stored_guard, field_bytes, data_of, field_of}

-- ---- the parts of an interval that starts at i, the first of k that end at n
pub interval_within : (k i size n : ℕ) → 0 < k → i + k * (size + 8) ≡ n → i + size + 8 ≤ n
interval_within k i size n h e = rw (add_assoc i size 8) (peel_within k i (size + 8) n h e)

pub data_part : (i size : ℕ) (s : List ℕ) → take (i + size - i) (drop i s) ≡ data_of size (drop i s)
unfolding data_of
data_part = part_at

-- the field that stands behind the data of an interval that begins at i
pub field_behind : (i size : ℕ) (s : List ℕ) → field_of (i + size) s ≡ field_of size (drop i s)
unfolding field_of
field_behind i size s = rw drop-drop refl

-- an interval's parts are its own bytes
pub own_data : (size : ℕ) (s : List ℕ) → data_of size (take (size + 8) s) ≡ data_of size s
unfolding data_of
own_data size s = take-take size (size + 8) s (omega arith)

pub own_field : (size : ℕ) (s : List ℕ) → field_of size (take (size + 8) s) ≡ field_of size s
unfolding field_of
own_field size s = rw drop_take (take-take 8 8 (drop size s) (omega arith))

-- the parts of an interval that was laid down, also where the list goes on behind it
module _ (size : ℕ) (d f rest : List ℕ) (long : length d ≡ size) where
  pub data_laid : data_of size ((d ++ f) ++ rest) ≡ d
  unfolding data_of
  data_laid = ap (take size) (append_assoc d f rest) ∙ take_at d (f ++ rest) size long

  pub field_laid : length f ≡ 8 → field_of size ((d ++ f) ++ rest) ≡ f
  unfolding field_of
  field_laid eight =
      ap (λ (l : List ℕ). take 8 (drop size l)) (append_assoc d f rest)
      ∙ ap (take 8) (drop_at d (f ++ rest) size long) ∙ take_at f rest 8 eight

-- ---- field bytes
module _ (g a r : ℕ) where
  pub field_length : length (field_bytes g a r) ≡ 8
  unfolding field_bytes
  field_length = simp (length-append, bytes_length)

  -- the three as one number of eight bytes
  pub field_number : a < 2 ^ 16 → r < 2 ^ 32 → bytes 8 (g * 2 ^ 48 + (a * 2 ^ 32 + r)) ≡ field_bytes g a r
  unfolding field_bytes
  field_number ha hr =
      bytes_joined 2 6 g (a * 2 ^ 32 + r) (omega arith) ∙ ap (λ (s : List ℕ). bytes 2 g ++ s) (bytes_joined 2 4 a r hr)

-- ---- under exclusive or
pub stored_xors : (size : ℕ) (a b : List ℕ) → length a ≡ length b → Bytes a → Bytes b
    → stored_guard (field_of size (xors a b)) ≡ bit_xor (stored_guard (field_of size a)) (stored_guard (field_of size b))
unfolding stored_guard field_of number_at
stored_xors size a b h p q =
    let field : take 2 (take 8 (drop size (xors a b))) ≡ xors (take 2 (take 8 (drop size a))) (take 2 (take 8 (drop size b))) =
    simp (xors_drop, xors_take) in
    ap number field
    ∙ number_xors (take 2 (take 8 (drop size a))) (take 2 (take 8 (drop size b)))
    (simp (length-take, length-drop, h))
    (take_bytes 2 (take 8 (drop size a)) (part_bytes size 8 a p))
    (take_bytes 2 (take 8 (drop size b)) (part_bytes size 8 b q))

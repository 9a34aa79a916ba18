-- The laws of stored blocks: their lengths, what they depend on, and that what was stored reads back. Each follows from the same law of pieces.
-- Assumes nothing.
use Rattle.std.proofs.Common.{◌≡◌, ℕ, ◌+◌, ◌*◌, ◌%◌, ◌^◌, ◌≤◌, List, [], ◌++◌, length, take, ap, ◌∙◌, ap₂, append-nil, length-append, length-take-le}
use lib.Seq.{take-append-le}
use Rattle.words.specs.Runs.{runs}
use Rattle.guard.specs.Guard.{guard}
use Rattle.field.specs.Field.{field_bytes, data_of, field_of}
use Rattle.field.proofs.Laws.{data_laid, field_laid, field_length}
use Rattle.blocks.specs.Blocks.{user_data}
use Rattle.blocks.proofs.Pieces.{runs_length, runs_behind, runs_read, runs_lots}
use Rattle.insertion.specs.declared.Marks.{Marks}
use Rattle.insertion.specs.Insertion.{with_field, later, stored_block, stored_blocks}

-- ---- the marks that the code counts on by a wrapping sum
pub marks_later : (k by sum : ℕ) (m : Marks) → by ≡ k * m.step → sum ≡ (m.reference + by) % 2 ^ 32
    → record { application = m.application; reference = sum; step = m.step } ≡ later k m
marks_later k by sum m e w =
    ap (λ (r : ℕ). record { application = m.application; reference = r; step = m.step }) (w ∙ ap (λ (n : ℕ). (m.reference + n) % 2 ^ 32) e)

-- ---- lengths
pub interval_length : (size : ℕ) (m : Marks) (s : List ℕ) → size ≤ length s → length (with_field size m s) ≡ size + 8
unfolding with_field
interval_length size m s h =
    length-append (take size s) _ ∙ ap₂ (λ (x y : ℕ). x + y) (length-take-le size s h) (field_length _ _ _)

pub block_length : (size n : ℕ) (m : Marks) (s : List ℕ) → n * size ≤ length s → length (stored_block size n m s) ≡ n * (size + 8)
unfolding stored_block
block_length size n m s h = runs_length (with_field size) (later 1) size (size + 8) (interval_length size) n m s h

pub blocks_length : (size n k : ℕ) (m : Marks) (s : List ℕ) → k * (n * size) ≤ length s → length (stored_blocks size n k m s) ≡ k * (n * (size + 8))
unfolding stored_blocks
blocks_length size n k m s h = runs_length (stored_block size n) (later n) (n * size) (n * (size + 8)) (block_length size n) k m s h

-- ---- what lies behind the intervals' own bytes does not count
pub interval_behind : (size : ℕ) (m : Marks) (s r : List ℕ) → size ≤ length s → with_field size m (s ++ r) ≡ with_field size m s
unfolding with_field
interval_behind size m s r h = ap (λ (l : List ℕ). l ++ field_bytes (guard l) m.application m.reference) (take-append-le size s r h)

pub block_behind : (size n : ℕ) (m : Marks) (s r : List ℕ) → n * size ≤ length s → stored_block size n m (s ++ r) ≡ stored_block size n m s
unfolding stored_block
block_behind size n m s r h = runs_behind (with_field size) (later 1) size (interval_behind size) n m s r h

-- ---- what was stored reads back, also where the list goes on behind it
module _ (size : ℕ) (m : Marks) (s r : List ℕ) (h : size ≤ length s) where
  pub interval_read_on : data_of size (with_field size m s ++ r) ≡ take size s
  unfolding with_field
  interval_read_on = data_laid size (take size s) _ r (length-take-le size s h)

  pub interval_field_on : field_of size (with_field size m s ++ r) ≡ field_bytes (guard (take size s)) m.application m.reference
  unfolding with_field
  interval_field_on = field_laid size (take size s) _ r (length-take-le size s h) (field_length _ _ _)

pub block_read_on : (size n : ℕ) (m : Marks) (s r : List ℕ) → n * size ≤ length s → user_data size n (stored_block size n m s ++ r) ≡ take (n * size) s
unfolding user_data stored_block
block_read_on size n m s r h = runs_read (with_field size) (later 1) size (data_of size) (size + 8) (interval_read_on size) (interval_length size) n m s r h

pub blocks_read_on : (size n k : ℕ) (m : Marks) (s r : List ℕ) → k * (n * size) ≤ length s → user_data size (k * n) (stored_blocks size n k m s ++ r) ≡ take (k * (n * size)) s
unfolding user_data stored_blocks
blocks_read_on size n k m s r h =
    runs_lots (λ (u : ℕ) (l : List ℕ). data_of size l) (size + 8) 0 n k (runs (stored_block size n) (later n) (n * size) k m s ++ r)
    ∙ runs_read (stored_block size n) (later n) (n * size) (user_data size n) (n * (size + 8)) (block_read_on size n) (block_length size n) k m s r h

pub blocks_read : (size n k : ℕ) (m : Marks) (s : List ℕ) → k * (n * size) ≤ length s → user_data size (k * n) (stored_blocks size n k m s) ≡ take (k * (n * size)) s
blocks_read size n k m s h = rw append-nil at (blocks_read_on size n k m s [] h)

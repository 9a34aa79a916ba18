-- The law of user data taken out: its length.
-- Assumes nothing.
use mathlib.Core.Path.{◌≡◌}
use mathlib.Core.List.{List}
use Prim.Native.Nat.{ℕ, ◌+◌, ◌*◌, ◌≤◌}
use native.Mathlib.Nat.{le_trans, le-add_right}
use lib.ListN.{length}
use lib.Seq.{length-take-le}
use Rattle.field.specs.Field.{data_of}
use Rattle.blocks.specs.Blocks.{user_data}
use Rattle.blocks.proofs.Pieces.{runs_length}

-- ---- length
pub user_data_length : (size k : ℕ) (s : List ℕ) → k * (size + 8) ≤ length s → length (user_data size k s) ≡ k * size
unfolding user_data data_of
user_data_length size k s h =
    runs_length (λ (u : ℕ) (l : List ℕ). data_of size l) (λ u. u) (size + 8) size
    (λ u l e. length-take-le size l (le_trans (le-add_right size 8) e))
    k
    0
    s
    h

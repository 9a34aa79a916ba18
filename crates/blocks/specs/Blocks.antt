-- User data out of stored intervals.
use Rattle.std.specs.Prelude.{ℕ, ◌+◌, List}
use Rattle.words.specs.Runs.{runs}
use Rattle.field.specs.Field.{data_of}

-- the user data of k stored intervals, without their fields
unfoldable pub user_data : ℕ → ℕ → List ℕ → List ℕ
user_data size k s = runs (λ (t : ℕ) (l : List ℕ). data_of size l) (λ t. t) (size + 8) k 0 s

-- What of stored blocks is compared, as the code goes through it; and what comparing asks of its callers.
use Rattle.std.specs.Prelude.{ℕ, ◌*◌, ◌≤◌, List, ◌≡◌, take}
use Rattle.words.specs.Runs.{runs}
use Rattle.comparison.specs.declared.Cut.{Cut}

-- n pieces, end to end
unfoldable pub parts_of : Cut → ℕ → List ℕ → List ℕ
parts_of k n s = runs (λ (t : ℕ) (l : List ℕ). take k.size l) (λ t. t) k.stride n 0 s

-- so many bytes are n pieces as they are stored, so many as they are sent
pub record Pair (k : Cut) (n stored sent : ℕ) : Type 0 where
  pub from : n * k.stride ≡ stored
  pub to : n * k.size ≡ sent
  pub apart : k.size ≤ k.stride

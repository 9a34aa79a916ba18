-- What is made piece by piece from a list.
use Rattle.std.specs.Prelude.{ℕ, zero, suc, List, [], ◌++◌, drop}

-- k pieces, end to end: each is made from what stands at its place in the list, stride elements after the one before, and from a value t that `next` moves on
unfoldable pub runs : {A : Type 0} → (A → List ℕ → List ℕ) → (A → A) → ℕ → ℕ → A → List ℕ → List ℕ
runs piece next stride zero t s = []
runs piece next stride (suc k) t s = piece t s ++ runs piece next stride k (next t) (drop stride s)

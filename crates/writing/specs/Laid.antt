-- What a lent buffer holds after text was written to it.
use Rattle.std.specs.Prelude.{ℕ, ◌+◌, List, ◌++◌, ◌≡◌, length, take, drop}

-- text written from a place on: of it, as much as there is room for
unfoldable pub laid : ℕ → List ℕ → List ℕ → List ℕ
laid at text out = take (length out) (take at out ++ (text ++ drop (at + length text) out))

-- what a function that prints `text` to `out` from the place `at` on hands back, and what it leaves there
pub record Written (text : List ℕ) (at : ℕ) (out : List ℕ) (r : ℕ) (left : List ℕ) : Type 0 where
  pub end : r ≡ at + length text
  pub now : left ≡ laid at text out

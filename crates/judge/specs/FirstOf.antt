-- The first refusal of a run of pieces.
use Rattle.std.specs.Prelude.{ℕ, zero, suc, List, drop}
use Rattle.answer.specs.Answer.{or_else, Answer}
use Rattle.answer.specs.Answer as answers

-- k pieces: each is judged from what stands at its place in the list, stride elements after the one before, and from a value t that `next` moves on
unfoldable pub first_of : {A : Type 0} → (A → List ℕ → Answer) → (A → A) → ℕ → ℕ → A → List ℕ → Answer
first_of judge next stride zero t s = answers.good
first_of judge next stride (suc k) t s = or_else (judge t s) (first_of judge next stride k (next t) (drop stride s))

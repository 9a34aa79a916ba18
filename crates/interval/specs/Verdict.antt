-- What the answer on one interval says of its fields.
use Rattle.std.specs.Prelude.{ℕ, ◌≡◌, ◌↔◌, Bool, true, false}
use Rattle.answer.specs.Answer as answers
use Rattle.answer.specs.Answer.{Answer}
use Rattle.answer.specs.declared.Field.TheVariants as fields

-- "in one interval guard, application, reference": each answer is given exactly when its field is the first wrong one.
-- g, a and f say which fields are wrong, x and y are the block's address and the interval's place
pub record Verdict (g a f : Bool) (x y : ℕ) (m : Answer) : Type 0 where
  pub guard : (m ≡ answers.wrong fields.Guard x y) ↔ (g ≡ true)
  pub application : (m ≡ answers.wrong fields.Application x y) ↔ ((g ≡ false) × (a ≡ true))
  pub reference : (m ≡ answers.wrong fields.Reference x y) ↔ ((g ≡ false) × (a ≡ false) × (f ≡ true))
  pub good : (m ≡ answers.good) ↔ ((g ≡ false) × (a ≡ false) × (f ≡ false))

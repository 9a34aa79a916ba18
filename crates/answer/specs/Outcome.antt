-- What comes of a call: its answer, and what is left of what was lent to it.
use Rattle.std.specs.Prelude.{cond}
use Rattle.answer.specs.Answer.{Answer, is_good}

pub record Outcome (L : Type 0) : Type 0 where
  pub answer : Answer
  pub left : L

abbrev pub outcome : {L : Type 0} → Answer → L → Outcome L
outcome a l = record { answer = a; left = l }

-- "Any answer but 0 changes no lent byte": the new bytes with a good answer, the old ones with any other
abbrev pub leaving : {L : Type 0} → Answer → L → L → Outcome L
leaving a old new = outcome a (cond (is_good a) new old)

-- Of the exported functions: whatever is handed over, the number that is handed back as an answer is one of document 01's table.
-- Assumes nothing.
use mathlib.Core.Path.{◌≡◌, ap, ◌∙◌}
use mathlib.Core.Bool.{true}
use mathlib.Core.List.{List}
use Prim.Native.Nat.{ℕ}
use Rattle.answer.specs.Answer.{Answer, answer_of, number_of, in_table}
use Rattle.answer.specs.Outcome.{Outcome}
use Rattle.answer.proofs.Demands.{in_table_lem}
use Rattle.execute.specs.Lent.{Lent}
use Rattle.format.specs.Choice.{Choice, kind_of}
use Rattle.scrub.specs.declared.Scrubbed.{Scrubbed}
use Rattle.lamptassel.specs.Answers.{Executed, Chosen, Answered, HandedBack}

told : (a : Answer) (r : ℕ) → r ≡ number_of a → in_table r ≡ true
told a r e = ap in_table e ∙ in_table_lem a

-- `lamptassel_execute`
pub execute_in_table : (o : Outcome Lent) (r a p : ℕ) (l : Lent) → Executed o r a p l → in_table r ≡ true
execute_in_table o r a p l x = told o.answer r x.answer

-- `lamptassel_format_choice`
pub format_choice_in_table : (c : Choice) (r t : ℕ) → Chosen c r t → in_table r ≡ true
format_choice_in_table c r t x = told (answer_of c) r x.answer

-- `lamptassel_fill`, `lamptassel_parity`, `lamptassel_rebuild`, `lamptassel_correct`, `lamptassel_guards`
pub answered_in_table : (o : Outcome (List ℕ)) (r : ℕ) (l : List ℕ) → Answered o r l → in_table r ≡ true
answered_in_table o r l x = told o.answer r x.answer

-- `lamptassel_scrub`
pub scrub_in_table : (o : Scrubbed) (r n j f a : ℕ) → HandedBack o r n j f a → in_table r ≡ true
scrub_in_table o r n j f a x = told o.answer r x.answer

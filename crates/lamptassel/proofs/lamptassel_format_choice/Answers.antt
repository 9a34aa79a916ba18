-- `lamptassel::lamptassel_format_choice`: the number and the type of `format::choice_of`'s choice.
use mathlib.Core.Path.{sym, ap, ◌∙◌}
use Rattle.answer.specs.Answer.{answer_of, number_of}
use Rattle.format.specs.Choice.{Choice}
use Rattle.lamptassel.proofs.Laws.{chosen_told}
use Rattle.lamptassel.proofs.lamptassel_format_choice.Goals as goal

pub returns-in-Ok : goal.returns-in-Ok
returns-in-Ok c =
    chosen_told _ _ _ _ c.choice_of-c.ensures (c.number.ensures ∙ ap (λ (x : Choice). number_of (answer_of x)) (sym c.in-Ok.is)) c.kind.ensures

pub returns-in-Err : goal.returns-in-Err
returns-in-Err c =
    chosen_told _ _ _ _ c.choice_of-c.ensures (c.number-in-Err.ensures ∙ ap (λ (x : Choice). number_of (answer_of x)) (sym c.in-Err.is)) c.kind.ensures

-- `segment::Segment::of`: the test decides.
use mathlib.Core.Path.{sym, ap, ◌∙◌}
use Rattle.std.proofs.lemmas.Result.{err_from_is_err_and}
use Rattle.answer.specs.Answer.{is_good}
use Rattle.segment.proofs.Rules.{description_told, rule_described}
use Rattle.segment.proofs.Segment.of.Goals as goal

pub returns-in_err-refused_if-clause-answer : goal.returns-in_err-refused_if-clause-answer
returns-in_err-refused_if-clause-answer c =
    let p = err_from_is_err_and c.from_residual.result c.from_residual.ensures.1 in
    rw (p.1, p.2) (sym c.in_err-refused_if.was ∙ description_told _ _ _ c.refused_if.ensures c.is_segment.ensures)

pub invariant_of-result : goal.invariant_of-result
invariant_of-result c =
    record { is = rule_described _ (ap is_good (sym (description_told _ _ _ c.refused_if.ensures c.is_segment.ensures) ∙ c.in_ok-refused_if.was)) }

pub returns-clause-answer : goal.returns-clause-answer
returns-clause-answer c = sym c.in_ok-refused_if.was ∙ description_told _ _ _ c.refused_if.ensures c.is_segment.ensures

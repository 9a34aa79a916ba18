-- `scrub::scrub_rules`: the description and the length first, then the place.
use Rattle.std.proofs.Common.{sym, ◌∙◌}
use Rattle.std.proofs.lemmas.Result.{err_from_is_err_and}
use Rattle.answer.proofs.Ladder.{hands_on, goes_past}
use Rattle.scrub.specs.Scrub.{scrub_rules}
use Rattle.scrub.proofs.scrub_rules.Goals as goal

pub returns-in_err-s-clause-answer : goal.returns-in_err-s-clause-answer
unfolding scrub_rules
returns-in_err-s-clause-answer c =
    let p = err_from_is_err_and c.from_residual.result c.from_residual.ensures.1 in
    rw (p.1, p.2) (hands_on _ _ _ c.in_err-s.ensures.answer)

pub returns-in_err-place_rule-clause-answer : goal.returns-in_err-place_rule-clause-answer
unfolding scrub_rules
returns-in_err-place_rule-clause-answer c =
    let p = err_from_is_err_and c.from_residual-in_err-place_rule.result c.from_residual-in_err-place_rule.ensures.1 in
    rw (p.1, p.2) (sym c.in_err-place_rule.was ∙ c.place_rule.ensures ∙ sym (goes_past _ _ c.in_ok-s.ensures.answer))

pub returns-clause-answer : goal.returns-clause-answer
unfolding scrub_rules
returns-clause-answer c = sym c.in_ok-place_rule.was ∙ c.place_rule.ensures ∙ sym (goes_past _ _ c.in_ok-s.ensures.answer)

-- `refusal::refusal`: rule after rule; the first that refuses answers.
use mathlib.Core.Path.{sym, ◌∙◌}
use Rattle.std.proofs.lemmas.Result.{err_from_is_err_and}
use Rattle.answer.proofs.Ladder.{hands_on, goes_past}
use Rattle.refusal.specs.Refusal.{refusal}
use Rattle.refusal.proofs.Rules.{short}
use Rattle.refusal.proofs.refusal.Goals as goal

pub returns-in_err-type_rules : goal.returns-in_err-type_rules
unfolding refusal
returns-in_err-type_rules c =
    let p = err_from_is_err_and c.from_residual.result c.from_residual.ensures.1 in
    rw (p.1, p.2) (hands_on _ _ _ c.in_err-type_rules.ensures)

pub returns-in_err-code_rule : goal.returns-in_err-code_rule
unfolding refusal
returns-in_err-code_rule c =
    let p = err_from_is_err_and c.from_residual-in_err-code_rule.result c.from_residual-in_err-code_rule.ensures.1 in
    rw (p.1, p.2) (hands_on _ _ _ c.in_err-code_rule.ensures ∙ sym (goes_past _ _ c.in_ok-type_rules.ensures))

pub returns-in_err-check_rule : goal.returns-in_err-check_rule
unfolding refusal
returns-in_err-check_rule c =
    let p = err_from_is_err_and c.from_residual-in_err-check_rule.result c.from_residual-in_err-check_rule.ensures.1 in
    rw (p.1, p.2) (hands_on _ _ _ c.in_err-check_rule.ensures ∙ sym (goes_past _ _ c.in_ok-type_rules.ensures ∙ goes_past _ _ c.in_ok-code_rule.ensures))

pub returns-in_err-range_rule : goal.returns-in_err-range_rule
unfolding refusal
returns-in_err-range_rule c =
    let p = err_from_is_err_and c.from_residual-in_err-range_rule.result c.from_residual-in_err-range_rule.ensures.1 in
    rw (p.1, p.2) (hands_on _ _ _ c.in_err-range_rule.ensures ∙ sym (goes_past _ _ c.in_ok-type_rules.ensures ∙ goes_past _ _ c.in_ok-code_rule.ensures ∙ goes_past _ _ c.in_ok-check_rule.ensures))

pub invariant_of-within : goal.invariant_of-within
invariant_of-within c = record { few = short _ c.args.c c.args.s.is c.in_ok-range_rule.ensures }

pub returns-in_err-size_rule : goal.returns-in_err-size_rule
unfolding refusal
returns-in_err-size_rule c =
    let p = err_from_is_err_and c.from_residual-in_err-size_rule.result c.from_residual-in_err-size_rule.ensures.1 in
    rw (p.1, p.2) (hands_on _ _ _ c.in_err-size_rule.ensures ∙ sym (goes_past _ _ c.in_ok-type_rules.ensures ∙ goes_past _ _ c.in_ok-code_rule.ensures ∙ goes_past _ _ c.in_ok-check_rule.ensures ∙ goes_past _ _ c.in_ok-range_rule.ensures))

pub returns : goal.returns
unfolding refusal
returns c = c.buffer_rule.ensures ∙ sym (goes_past _ _ c.in_ok-type_rules.ensures ∙ goes_past _ _ c.in_ok-code_rule.ensures ∙ goes_past _ _ c.in_ok-check_rule.ensures ∙ goes_past _ _ c.in_ok-range_rule.ensures ∙ goes_past _ _ c.in_ok-size_rule.ensures)

-- `refusal::code_rule`: the code decides.
use Rattle.refusal.specs.Refusal.{code_rule}
use Rattle.refusal.proofs.code_rule.Goals as goal

pub returns : goal.returns
unfolding code_rule
returns c = c.refused_if.ensures

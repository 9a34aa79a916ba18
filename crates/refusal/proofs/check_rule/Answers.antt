-- `refusal::check_rule`: the bits decide.
use Rattle.refusal.specs.Refusal.{check_rule}
use Rattle.refusal.proofs.check_rule.Goals as goal

pub returns : goal.returns
unfolding check_rule
returns c = c.refused_if.ensures

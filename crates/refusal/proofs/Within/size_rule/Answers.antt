-- `refusal::Within::size_rule`: the bytes moved decide.
use Rattle.refusal.proofs.Rules.{size_told}
use Rattle.refusal.proofs.Within.size_rule.Goals as goal

pub returns : goal.returns
returns c = size_told _ _ _ _ c.refused_if.ensures c.moved.ensures

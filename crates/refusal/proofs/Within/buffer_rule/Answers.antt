-- `refusal::Within::buffer_rule`: the buffer's length decides.
use Rattle.refusal.proofs.Rules.{buffer_told}
use Rattle.refusal.proofs.Within.buffer_rule.Goals as goal

pub returns : goal.returns
returns c = buffer_told _ _ _ _ c.args.lengths c.refused_if.ensures c.buffer.ensures

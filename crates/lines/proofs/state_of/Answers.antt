-- `lines::state_of`: skipped, or what judging says of the interval's two pieces.
use Rattle.lines.proofs.LineLaws.{state_skipped, state_judged}
use Rattle.lines.proofs.state_of.Goals as goal

pub returns-then-skipped : goal.returns-then-skipped
returns-then-skipped c = state_skipped _ _ _ _ c.if-skipped.true

pub returns : goal.returns
returns c = state_judged _ _ _ _ _ _ _ c.if-skipped.false c.field_of.ensures c.judge_pieces.ensures c.of.ensures

-- `judge::judge_block`: by the escape, the laws of a block.
use Rattle.std.proofs.Common.{sym, ◌∙◌, one-mul}
use Rattle.judge.proofs.BlockLaws.{block_escaped, block_judged}
use Rattle.judge.proofs.judge_block.Goals as goal

pub any_escapes-requires : goal.any_escapes-requires
any_escapes-requires c = sym (one-mul _) ∙ c.requires.whole

pub returns-then-any_escapes : goal.returns-then-any_escapes
returns-then-any_escapes c = sym (block_escaped _ _ _ (sym c.any_escapes.ensures ∙ c.if-any_escapes.true))

pub returns : goal.returns
returns c = c.judge_intervals.ensures ∙ sym (block_judged _ _ _ (sym c.any_escapes.ensures ∙ c.if-any_escapes.false))

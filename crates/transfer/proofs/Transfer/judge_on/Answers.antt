-- `transfer::Transfer::judge_on`: a side that is not checked is good; every other is a run of blocks.
use mathlib.Core.Path.{refl, sym, ◌∙◌}
use Rattle.transfer.specs.Transfer.{judged_on}
use Rattle.transfer.proofs.Shapes.{judged_none, run}
use Rattle.transfer.proofs.Transfer.judge_on.Goals as goal

pub returns-then-count-eq0 : goal.returns-then-count-eq0
returns-then-count-eq0 c = sym (judged_none _ _ _ _ (sym c.checked_on-count.ensures ∙ c.if-count-eq0.true))

pub judge_blocks-requires : goal.judge_blocks-requires
judge_blocks-requires c = rw (c.checked_on-count.ensures, c.rules-rules.ensures, c.start-start.ensures) (run _ _ _ _ c.args.self.shaped c.requires (λ e. c.if-count-eq0.false (c.checked_on-count.ensures ∙ e)))

pub returns : goal.returns
unfolding judged_on
returns c = c.judge_blocks.ensures ∙ rw (c.checked_on-count.ensures, c.rules-rules.ensures, c.start-start.ensures) refl

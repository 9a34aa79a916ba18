-- `format::choice_of`: within the ranges the sentences and the table choose the same.
use mathlib.Core.Path.{sym, ◌∙◌}
use Rattle.format.proofs.Demands.{within_ranges, outside_ranges}
use Rattle.format.proofs.choice_of.Goals as goal

pub returns-then-in_range : goal.returns-then-in_range
returns-then-in_range c = c.sentences.ensures ∙ sym (within_ranges _ _ _ _ (sym c.in_range.ensures ∙ c.if-in_range.true))

pub returns : goal.returns
returns c = c.illegal.ensures ∙ sym (outside_ranges _ _ _ _ (sym c.in_range.ensures ∙ c.if-in_range.false))

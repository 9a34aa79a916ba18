-- `scrub::covered`: the number, or those left.
use Rattle.std.proofs.Common.{◌∙◌}
use Rattle.scrub.proofs.Laws.{covered_min}
use Rattle.scrub.proofs.covered.Goals as goal

pub returns : goal.returns
returns c = c.min.ensures ∙ covered_min _ _ _

-- `segment::place_rule`: one test.
use Rattle.segment.specs.Places.{place_rule}
use Rattle.segment.proofs.place_rule.Goals as goal

pub returns : goal.returns
unfolding place_rule
returns c = c.refused_if.ensures

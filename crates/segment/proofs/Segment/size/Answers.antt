-- `segment::Segment::size`: there is an interval to divide by.
use Rattle.segment.specs.Segment.{size_of}
use Rattle.segment.proofs.Laws.{sizes}
use Rattle.segment.proofs.Segment.size.Goals as goal

pub nonzero_div-result : goal.nonzero_div-result
nonzero_div-result c = rw c.intervals.ensures (sizes _ c.args.self.is).intervals_least

pub returns : goal.returns
unfolding size_of
returns c = rw c.intervals.ensures

-- `transfer::Transfer::cut`: a whole block is one piece, of others each interval's data is one.
use mathlib.Core.Path.{sym, ◌∙◌}
use native.Mathlib.Omega.{arith}
use Rattle.segment.proofs.Laws.{sizes}
use Rattle.transfer.proofs.Comparing.{cut_whole, cut_parted}
use Rattle.transfer.proofs.Transfer.cut.Goals as goal

pub returns-then-whole : goal.returns-then-whole
returns-then-whole c = cut_whole _ _ (sym c.whole.ensures ∙ c.if-whole.true) _ c.stored-stored.ensures

pub overflow_add-result : goal.overflow_add-result
overflow_add-result c = rw c.size-size.ensures (omega (arith, (sizes _ c.args.self.segment.is).size_most))

pub returns : goal.returns
returns c =
    cut_parted _ _ (sym c.whole.ensures ∙ c.if-whole.false) _ _ c.intervals.ensures c.size-size.ensures

-- `guard::Rows::new`: every number is tried by one computed test.
use lib.Dec.{lit≤}
use Rattle.guard.specs.Guard.{guard, divide, take_off, terms, terms_of}
use Rattle.guard.proofs.ByRows.{right}
use Rattle.guard.proofs.Rows.new.Goals as goal

pub invariant_of-result : goal.invariant_of-result
unfolding guard divide take_off terms terms_of
invariant_of-result c = record { right = right _ tt (lit≤ tt) }

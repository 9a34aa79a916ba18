-- `codes::codes`: every row is tried by one computed test.
use lib.Dec.{lit≤}
use Rattle.codes.specs.Codes.{columns_of}
use Rattle.codes.proofs.InRows.{in_order}
use Rattle.codes.proofs.codes.Goals as goal

pub returns : goal.returns
unfolding columns_of
returns c = in_order _ tt (lit≤ tt)

-- `list::main`: the sheet takes any listing in full.
use mathlib.Core.Path.{sym}
use lib.Seq.{length-take-le}
use Rattle.listing.proofs.Most.{listed_fits}
use Rattle.list.proofs.main.Goals as goal

pub slice_bounds-out-end : goal.slice_bounds-out-end
slice_bounds-out-end c = listed_fits c.list-n.ensures c.zeros-out.ensures

pub slice_bounds-write_all-end : goal.slice_bounds-write_all-end
slice_bounds-write_all-end c = sym (length-take-le _ _ (listed_fits c.list-n.ensures c.zeros-out.ensures))

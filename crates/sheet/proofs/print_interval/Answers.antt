-- `sheet::print_interval`: one line, printed and counted.
use Rattle.sheet.proofs.SheetLaws.{lines_one}
use Rattle.sheet.proofs.print_interval.Goals as goal

pub returns : goal.returns
returns c = lines_one c.line_of-l.result _ c.line_of-l.ensures c.print.ensures c.count.ensures.lines c.count.ensures.faults c.count.ensures.skipped

-- `closing::print_refused`: the word, then the number and the end of the line.
use mathlib.Core.Path.{refl}
use borrow.Author.Rules.{rules}
use Rattle.writing.proofs.Writing.{printed_over}
use Rattle.closing.proofs.ClosingLaws.{refused_printed}
use Rattle.closing.proofs.print_refused.Goals as goal

pub returns : goal.returns
returns c = printed_over refl (search rules) c.new-pen.ensures.start c.new-pen.ensures.bytes (refused_printed _ c.number.ensures c.labelled.ensures)

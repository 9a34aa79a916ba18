-- `page::print_listed`: header, lines and last line, one after another.
use mathlib.Core.Path.{refl}
use borrow.Author.Rules.{rules}
use native.Mathlib.Omega.{arith}
use Rattle.writing.proofs.Writing.{printed_over}
use Rattle.sheet.proofs.SheetLaws.{counts_none}
use Rattle.contents.proofs.SegmentLaws.{lines_end}
use Rattle.page.proofs.PageLaws.{listed_printed}
use Rattle.page.specs.Page.{header_text}
use Rattle.page.proofs.print_listed.Goals as goal

pub print_total-requires : goal.print_total-requires
print_total-requires c =
    let pre = c.requires in
    let lines = rw (counts_none c.default-counts.ensures) at c.print_segment.ensures in
    omega (arith, lines_end _ _ c.args.segment.is pre.d_value (omega (arith, c.new-pen.ensures.start, c.word.ensures.written.end)) pre.s_len_bound lines)

pub returns : goal.returns
unfolding header_text
returns c =
    let lines = rw (counts_none c.default-counts.ensures) at c.print_segment.ensures in
    printed_over refl (search rules) c.new-pen.ensures.start c.new-pen.ensures.bytes
    (listed_printed _ _ c.word.ensures lines c.print_total.ensures)

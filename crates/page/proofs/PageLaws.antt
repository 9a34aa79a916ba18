-- The laws of a segment's listing: header, lines and last line, one after another, and how many bytes they can be.
-- Assumes nothing.
use mathlib.Core.Path.{◌≡◌}
use mathlib.Core.List.{List}
use Prim.Native.Nat.{ℕ, ◌≤◌}
use native.Mathlib.Nat.{zero-add}
use native.Mathlib.Omega.{arith}
use lib.ListN.{length, length-append}
use Rattle.segment.specs.declared.Description.{Description}
use Rattle.segment.specs.Segment.{IsSegment, length_of}
use Rattle.writing.specs.declared.Pen.{Pen}
use Rattle.writing.specs.Printed.{Printed}
use Rattle.writing.proofs.Writing.{printed_then}
use Rattle.sheet.specs.declared.Counts.{Counts}
use Rattle.sheet.specs.Sheet.{faulty, skips, count_of, PrintedLines}
use Rattle.sheet.proofs.SheetLaws.{counts, lines_most}
use Rattle.contents.specs.Contents.{lines_of}
use Rattle.contents.proofs.SegmentLaws.{lines_length}
use Rattle.closing.specs.Closing.{numbers_text}
use Rattle.closing.proofs.ClosingLaws.{numbers_most}
use Rattle.page.specs.Page.{header_text, total_text, listed_text}

pub listed_printed : (d : Description) (s : List ℕ) {p h l z : Pen} {c : Counts} → Printed header_text p h → PrintedLines (lines_of d s) h (counts 0 0 0) l c
    → Printed (numbers_text c.lines c.faults c.skipped) l z → Printed (listed_text d s) p z
unfolding listed_text total_text
listed_printed d s wh wl wt =
    printed_then wh (printed_then wl.text (rw (wl.lines, wl.faults, wl.skipped, zero-add, zero-add, zero-add) at wt))

pub listed_most : (d : Description) (s : List ℕ) → IsSegment d → length_of d ≡ length s → length s ≤ 65536 → length (listed_text d s) ≤ 524288
unfolding listed_text total_text header_text
listed_most d s g long h =
    simp length-append
    (omega (
      arith,
      lines_most (lines_of d s),
      lines_length d s g long,
      numbers_most (length (lines_of d s)) (count_of faulty (lines_of d s)) (count_of skips (lines_of d s)),
    ))

-- `paragraph::print_block`: the lines that are printed, and those of the intervals that are left, make up the block's.
use mathlib.Core.Path.{◌≡◌}
use mathlib.Core.Bool.{Bool}
use mathlib.Core.List.{List, ◌++◌}
use Prim.Native.Nat.{ℕ, ◌+◌, ◌-◌, ◌*◌, ◌^◌, ◌≤◌}
use lib.ListN.{length, drop}
use Rattle.interval.specs.declared.Rules.{Rules}
use Rattle.interval.specs.declared.Place.{Place}
use Rattle.lines.specs.declared.Line.{Line}
use Rattle.writing.specs.declared.Pen.{Pen}
use Rattle.sheet.specs.declared.Counts.{Counts}
use Rattle.sheet.specs.Sheet.{PrintedLines, Room}
use Rattle.paragraph.specs.Paragraph.{interval_lines, lines_in}
use Rattle.paragraph.proofs.print_block.Given as goal

-- o and a are the pen and the counts before the first interval, q and b those of now; the intervals that are left begin at i
pub record Going (r : Rules) (k : Bool) (p : Place) (s : List ℕ) (o : Pen) (a : Counts) (q : Pen) (b : Counts) (here : Place) (number left i : ℕ) : Type 0 where
  pub from : i + left * (r.size + 8) ≡ length s
  pub places : here.interval + left ≤ 2 ^ 32
  pub space : Room q b left
  pub done : List Line
  pub printed : PrintedLines done o a q b
  pub all : done ++ interval_lines r k left number here (drop i s) ≡ lines_in r p s

abbrev pub invariant-loop-k : goal.invariant-loop-k
invariant-loop-k l = Going l.r l.skipped l.fn.p l.s l.fn.pen l.fn.counts l.pen l.counts l.here l.k (l.r.intervals - l.k) (l.k * (l.r.size + 8))

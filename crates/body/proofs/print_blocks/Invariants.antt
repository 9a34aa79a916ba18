-- `body::print_blocks`: the lines that are printed, and those of the blocks that are left, make up all of them.
use mathlib.Core.Path.{◌≡◌}
use mathlib.Core.List.{List, ◌++◌}
use Prim.Native.Nat.{ℕ, ◌+◌, ◌-◌, ◌*◌, ◌≤◌}
use lib.ListN.{length, drop}
use Rattle.interval.specs.declared.Rules.{Rules}
use Rattle.interval.specs.declared.Place.{Place}
use Rattle.judge.specs.Judge.{Run}
use Rattle.lines.specs.declared.Line.{Line}
use Rattle.writing.specs.declared.Pen.{Pen}
use Rattle.sheet.specs.declared.Counts.{Counts}
use Rattle.sheet.specs.Sheet.{PrintedLines, Room}
use Rattle.body.specs.Body.{block_lines}
use Rattle.body.proofs.print_blocks.Given as goal

-- o and a are the pen and the counts before the first block, q and b those of now; the blocks that are left begin at i
pub record Going (r : Rules) (count : ℕ) (p : Place) (s : List ℕ) (o : Pen) (a : Counts) (q : Pen) (b : Counts) (here : Place) (left i : ℕ) : Type 0 where
  pub inside : i ≤ length s
  pub run : Run r left here (drop i s)
  pub space : Room q b (left * r.intervals)
  pub done : List Line
  pub printed : PrintedLines done o a q b
  pub all : done ++ block_lines r left here (drop i s) ≡ block_lines r count p s

abbrev pub invariant-loop-k : goal.invariant-loop-k
invariant-loop-k l = Going l.r l.count l.fn.p l.s l.fn.pen l.fn.counts l.pen l.counts l.here (l.count - l.k) (l.k * (l.r.intervals * (l.r.size + 8)))

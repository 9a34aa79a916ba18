-- The lines of a block.
use Rattle.std.specs.Prelude.{ℕ, zero, suc, ◌+◌, Bool, List, [], ◌∷◌, drop}
use Rattle.interval.specs.declared.Rules.{Rules}
use Rattle.interval.specs.declared.Place.{Place}
use Rattle.interval.specs.Interval.{any_escapes}
use Rattle.judge.specs.Judge.{next_interval}
use Rattle.lines.specs.declared.Line.{Line}
use Rattle.lines.specs.Lines.{line_of}

-- the lines of k intervals of a block, from interval i on
unfoldable pub interval_lines : Rules → Bool → ℕ → ℕ → Place → List ℕ → List Line
interval_lines r skipped zero i p s = []
interval_lines r skipped (suc k) i p s =
    line_of r skipped i p s ∷ interval_lines r skipped k (i + 1) (next_interval p) (drop (r.size + 8) s)

-- the lines of a block
unfoldable pub lines_in : Rules → Place → List ℕ → List Line
lines_in r p s = interval_lines r (any_escapes r.escape r.size r.intervals s) r.intervals 0 p s

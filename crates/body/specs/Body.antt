-- The lines of a run of blocks.
use Rattle.std.specs.Prelude.{ℕ, zero, suc, ◌+◌, ◌*◌, List, [], ◌++◌, drop}
use Rattle.interval.specs.declared.Rules.{Rules}
use Rattle.interval.specs.declared.Place.{Place}
use Rattle.judge.specs.Judge.{next_block}
use Rattle.lines.specs.declared.Line.{Line}
use Rattle.paragraph.specs.Paragraph.{lines_in}

-- the lines of k blocks
unfoldable pub block_lines : Rules → ℕ → Place → List ℕ → List Line
block_lines r zero p s = []
block_lines r (suc k) p s =
    lines_in r p s
    ++ block_lines r k (next_block r.intervals p) (drop (r.intervals * (r.size + 8)) s)

-- "The listing program": the lines of a segment.
use Rattle.std.specs.Prelude.{ℕ, cond, List, [], eqb}
use Rattle.segment.specs.declared.Description.{Description}
use Rattle.sides.specs.declared.Side.TheVariants.{Stored}
use Rattle.rules.specs.Rules.{rules_of, start_of}
use Rattle.rules.specs.ReadAll.{read_all}
use Rattle.lines.specs.declared.Line.{Line}
use Rattle.body.specs.Body.{block_lines}

-- "Type 0 has no interval lines."
unfoldable pub lines_of : Description → List ℕ → List Line
lines_of d s = cond (eqb d.kind 0) [] (block_lines (rules_of Stored d (read_all d)) d.count (start_of d (read_all d)) s)

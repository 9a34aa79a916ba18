-- `Line::print`: one text after another, each with room left for those behind it.
use native.Mathlib.Omega.{arith}
use mathlib.Core.Path.{ap}
use lib.ListN.{length}
use Rattle.writing.proofs.Writing.{printed_as}
use Rattle.text.proofs.Ends.{decimal_then_end, hexadecimal_then_end}
use Rattle.lines.proofs.LineLaws.{line_printed, state_most}
use Rattle.lines.proofs.Line.print.Goals as goal

pub decimal_then-requires-2 : goal.decimal_then-requires-2
decimal_then-requires-2 c = omega (arith, c.requires, decimal_then_end _ _ c.decimal_then.ensures.written)

pub hexadecimal_then-requires : goal.hexadecimal_then-requires
hexadecimal_then-requires c = omega (arith, c.requires, decimal_then_end _ _ c.decimal_then.ensures.written, decimal_then_end _ _ c.decimal_then-2.ensures.written)

pub hexadecimal_then-requires-2 : goal.hexadecimal_then-requires-2
hexadecimal_then-requires-2 c = omega (arith, c.requires, decimal_then_end _ _ c.decimal_then.ensures.written, decimal_then_end _ _ c.decimal_then-2.ensures.written, hexadecimal_then_end 4 _ _ c.hexadecimal_then.ensures.written)

pub hexadecimal_then-requires-3 : goal.hexadecimal_then-requires-3
hexadecimal_then-requires-3 c = omega (arith, c.requires, decimal_then_end _ _ c.decimal_then.ensures.written, decimal_then_end _ _ c.decimal_then-2.ensures.written, hexadecimal_then_end 4 _ _ c.hexadecimal_then.ensures.written, hexadecimal_then_end 4 _ _ c.hexadecimal_then-2.ensures.written)

pub word-requires : goal.word-requires
word-requires c = omega (arith, c.requires, decimal_then_end _ _ c.decimal_then.ensures.written, decimal_then_end _ _ c.decimal_then-2.ensures.written, hexadecimal_then_end 4 _ _ c.hexadecimal_then.ensures.written, hexadecimal_then_end 4 _ _ c.hexadecimal_then-2.ensures.written, hexadecimal_then_end 8 _ _ c.hexadecimal_then-3.ensures.written, ap length c.text.ensures, state_most c.args.self.state)

pub put-requires : goal.put-requires
put-requires c = omega (arith, c.requires, decimal_then_end _ _ c.decimal_then.ensures.written, decimal_then_end _ _ c.decimal_then-2.ensures.written, hexadecimal_then_end 4 _ _ c.hexadecimal_then.ensures.written, hexadecimal_then_end 4 _ _ c.hexadecimal_then-2.ensures.written, hexadecimal_then_end 8 _ _ c.hexadecimal_then-3.ensures.written, c.word.ensures.written.end, ap length c.text.ensures, state_most c.args.self.state)

pub returns : goal.returns
returns c =
    line_printed _ c.decimal_then.ensures c.decimal_then-2.ensures c.hexadecimal_then.ensures
    c.hexadecimal_then-2.ensures c.hexadecimal_then-3.ensures (printed_as c.text.ensures c.word.ensures) c.put.ensures

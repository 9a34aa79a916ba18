-- `text::labelled`: one text after another.
use native.Mathlib.Omega.{arith}
use Rattle.writing.proofs.Writing.{printed_then}
use borrow.Author.Rules.{rules}
use Rattle.text.proofs.labelled.Goals as goal

pub decimal_then-requires : goal.decimal_then-requires
decimal_then-requires c = omega (arith, c.word.ensures.written.end)

pub returns : goal.returns
returns c = search (printed_then, rules)

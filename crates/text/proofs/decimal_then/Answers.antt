-- `text::decimal_then`: one text after another.
use native.Mathlib.Omega.{arith}
use Rattle.writing.proofs.Writing.{printed_then}
use Rattle.digits.proofs.Digits.{decimal_end}
use borrow.Author.Rules.{rules}
use Rattle.text.proofs.decimal_then.Goals as goal

pub put-requires : goal.put-requires
put-requires c = omega (arith, decimal_end _ c.decimal.ensures.written)

pub returns : goal.returns
returns c = search (printed_then, rules)

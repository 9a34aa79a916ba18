-- `text::hexadecimal_then`: one text after another.
use native.Mathlib.Omega.{arith}
use Rattle.writing.proofs.Writing.{printed_then}
use Rattle.digits.proofs.Digits.{hexadecimal_end}
use borrow.Author.Rules.{rules}
use Rattle.text.proofs.hexadecimal_then.Goals as goal

pub put-requires : goal.put-requires
put-requires c = omega (arith, hexadecimal_end _ _ c.hexadecimal.ensures.written)

pub returns : goal.returns
returns c = search (printed_then, rules)

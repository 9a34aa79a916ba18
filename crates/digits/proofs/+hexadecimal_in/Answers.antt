-- `digits::hexadecimal_in`: the digits before the last, and the last behind them.
use native.Mathlib.Omega.{arith}
use borrow.Author.Rules.{rules}
use Rattle.digits.proofs.Digits.{hexadecimal_none, hexadecimal_end, hexadecimal_next}
use Rattle.digits.proofs.+hexadecimal_in.Goals as goal

pub returns-then-k-eq0 : goal.returns-then-k-eq0
returns-then-k-eq0 t c = search (hexadecimal_none, rules)

pub put-requires : goal.put-requires
put-requires t c = omega (arith, hexadecimal_end _ _ c.hexadecimal_in-end.ensures)

pub returns : goal.returns
returns t c = search (hexadecimal_next, rules)

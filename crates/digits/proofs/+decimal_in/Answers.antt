-- `digits::decimal_in`: the digits before the last, and the last behind them.
use native.Mathlib.Omega.{arith}
use borrow.Author.Rules.{rules}
use Rattle.digits.proofs.Digits.{decimal_none, decimal_in_end, decimal_last, decimal_next}
use Rattle.digits.proofs.+decimal_in.Goals as goal

pub returns-then-k-eq0 : goal.returns-then-k-eq0
returns-then-k-eq0 t c = search (decimal_none, rules)

pub returns-then-n-lt10 : goal.returns-then-n-lt10
returns-then-n-lt10 t c = search (decimal_last, rules)

pub put-requires-2 : goal.put-requires-2
put-requires-2 t c = omega (arith, decimal_in_end _ _ c.decimal_in-end.ensures)

pub returns : goal.returns
returns t c = search (decimal_next, rules)

-- `digits::decimal`: twenty digits are enough for sixty-four bits.
use Rattle.digits.specs.Digits.{decimal}
use borrow.Author.Rules.{rules}
use Rattle.digits.proofs.decimal.Goals as goal

pub returns : goal.returns
unfolding decimal
returns c = search rules

-- `codes::columns_of`: the rows are in order.
use mathlib.Core.Path.{◌∙◌}
use lib.Dec.{lit<}
use Rattle.codes.proofs.InRows.{no_code}
use borrow.Author.Rules.{rules}
use Rattle.codes.proofs.columns_of.Goals as goal

pub returns-then-code-gt7 : goal.returns-then-code-gt7
returns-then-code-gt7 c = c.named.ensures ∙ c.codes-t.ensures.row 7 (lit< tt) ∙ no_code _ c.if-code-gt7.true

pub returns : goal.returns
returns c = c.named-2.ensures ∙ c.codes-t.ensures.row _ (search rules)

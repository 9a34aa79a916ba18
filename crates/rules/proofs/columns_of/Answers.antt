-- `rules::columns_of`: each code is one row of the table.
use mathlib.Core.Path.{sym, ◌∙◌}
use Rattle.rules.specs.Rules.{columns_of}
use Rattle.rules.proofs.Laws.{no_code}
use Rattle.rules.proofs.columns_of.Goals as goal

pub returns-in-0 : goal.returns-in-0
unfolding columns_of
returns-in-0 c = c.columns_in.ensures ∙ rw c.in-0.is

pub returns-in-1 : goal.returns-in-1
unfolding columns_of
returns-in-1 c = c.columns_in-in-1.ensures ∙ rw c.in-1.is

pub returns-in-2 : goal.returns-in-2
unfolding columns_of
returns-in-2 c = c.columns_in-in-2.ensures ∙ rw c.in-2.is

pub returns-in-3 : goal.returns-in-3
unfolding columns_of
returns-in-3 c = c.columns_in-in-3.ensures ∙ rw c.in-3.is

pub returns-in-4 : goal.returns-in-4
unfolding columns_of
returns-in-4 c = c.columns_in-in-4.ensures ∙ rw c.in-4.is

pub returns-in-5 : goal.returns-in-5
unfolding columns_of
returns-in-5 c = c.columns_in-in-5.ensures ∙ rw c.in-5.is

pub returns-in_default : goal.returns-in_default
returns-in_default c = let r = c.in_default.in_default-own.rest in c.columns_in-in_default.ensures ∙ sym (no_code _ r.0.0.0.0.0.1 r.0.0.0.0.1 r.0.0.0.1 r.0.0.1 r.0.1 r.1)

-- `refusal::type_rules`: each return is one of the rules.
use mathlib.Core.Path.{sym, ◌∙◌}
use Rattle.refusal.proofs.Rules.{long_any, short_two, short_zero, short_other}
use Rattle.refusal.proofs.type_rules.Goals as goal

pub returns-then-c : goal.returns-then-c
returns-then-c c = c.refused_if.ensures ∙ long_any _ c.args.c c.if-c.true

pub returns-then-c-eq0 : goal.returns-then-c-eq0
returns-then-c-eq0 c = sym (short_zero _ c.args.c c.if-c.false c.if-c-eq0.true)

pub returns-then-d-eq2 : goal.returns-then-d-eq2
returns-then-d-eq2 c = sym (short_two _ c.args.c c.if-c.false c.if-d-eq2.true c.if-c-eq0.false)

pub returns : goal.returns
returns c =
    c.refused_if-2.ensures ∙ short_other _ c.args.c c.if-c.false c.if-d-eq2.false c.if-c-eq0.false

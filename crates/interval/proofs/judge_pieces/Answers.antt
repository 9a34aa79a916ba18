-- `interval::judge_pieces`: each answer comes where its test is the first that holds.
use mathlib.Core.Path.{sym, ◌∙◌}
use Rattle.interval.proofs.PieceLaws.{pieces_verdict}
use Rattle.interval.proofs.judge_pieces.Goals as goal

pub returns-then-guard_wrong : goal.returns-then-guard_wrong
returns-then-guard_wrong c = sym ((pieces_verdict _ _ _ _).guard.1 (sym c.guard_wrong.ensures ∙ c.if-guard_wrong.true))

pub returns-then-application_wrong : goal.returns-then-application_wrong
returns-then-application_wrong c =
    sym
    ((pieces_verdict _ _ _ _).application.1 (
      sym c.guard_wrong.ensures ∙ c.if-guard_wrong.false,
      sym c.application_wrong.ensures ∙ c.if-application_wrong.true,
    ))

pub returns-then-reference_wrong : goal.returns-then-reference_wrong
returns-then-reference_wrong c =
    sym
    ((pieces_verdict _ _ _ _).reference.1 (
      sym c.guard_wrong.ensures ∙ c.if-guard_wrong.false,
      sym c.application_wrong.ensures ∙ c.if-application_wrong.false,
      sym c.reference_wrong.ensures ∙ c.if-reference_wrong.true,
    ))

pub returns : goal.returns
returns c =
    sym
    ((pieces_verdict _ _ _ _).good.1 (
      sym c.guard_wrong.ensures ∙ c.if-guard_wrong.false,
      sym c.application_wrong.ensures ∙ c.if-application_wrong.false,
      sym c.reference_wrong.ensures ∙ c.if-reference_wrong.false,
    ))

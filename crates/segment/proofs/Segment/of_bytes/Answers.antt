-- `segment::Segment::of_bytes`: the description first, then the length.
use mathlib.Core.Path.{sym, ap, ◌∙◌}
use Rattle.std.proofs.lemmas.Result.{err_from_is_err_and}
use Rattle.answer.proofs.Ladder.{hands_on, goes_past}
use Rattle.segment.specs.Segment.{length_of}
use Rattle.segment.specs.Rules.{segment_rules}
use Rattle.segment.proofs.Rules.{length_told}
use Rattle.segment.proofs.Segment.of_bytes.Goals as goal

pub returns-in_err-s-clause-answer : goal.returns-in_err-s-clause-answer
unfolding segment_rules
returns-in_err-s-clause-answer c =
    let p = err_from_is_err_and c.from_residual.result c.from_residual.ensures.1 in
    rw (p.1, p.2) (hands_on _ _ _ c.in_err-s.ensures.answer)

pub returns-in_err-refused_if-clause-answer : goal.returns-in_err-refused_if-clause-answer
unfolding segment_rules
returns-in_err-refused_if-clause-answer c =
    let p = err_from_is_err_and c.from_residual-in_err-refused_if.result c.from_residual-in_err-refused_if.ensures.1 in
    rw (p.1, p.2)
    (sym c.in_err-refused_if.was
    ∙ length_told _ _ _ _ c.refused_if.ensures (c.length.ensures ∙ ap length_of c.in_ok-s.ensures.numbers)
    ∙ sym (goes_past _ _ c.in_ok-s.ensures.answer))

pub returns-clause-answer : goal.returns-clause-answer
unfolding segment_rules
returns-clause-answer c =
    sym c.in_ok-refused_if.was
    ∙ length_told _ _ _ _ c.refused_if.ensures (c.length.ensures ∙ ap length_of c.in_ok-s.ensures.numbers)
    ∙ sym (goes_past _ _ c.in_ok-s.ensures.answer)

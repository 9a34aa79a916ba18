-- `records::segment_of`: the frame, then the segment's rules.
use mathlib.Core.Path.{sym, ap, ap₂, ◌∙◌}
use mathlib.Core.Bool.{Bool}
use native.Mathlib.Omega.{arith}
use Rattle.std.proofs.lemmas.Result.{err_from_is_err_and}
use Rattle.answer.specs.Answer.{refused_if}
use Rattle.answer.specs.declared.Reason.TheVariants as reasons
use Rattle.answer.proofs.Ladder.{hands_on, goes_past}
use Rattle.segment.specs.Rules.{segment_rules}
use Rattle.records.specs.Record.{record_answer}
use Rattle.records.proofs.RecordLaws.{framed, segment_length}
use Rattle.records.proofs.segment_of.Goals as goal

pub returns-in_err-refused_if-clause-answer : goal.returns-in_err-refused_if-clause-answer
unfolding record_answer
returns-in_err-refused_if-clause-answer c =
    let p = err_from_is_err_and c.from_residual.result c.from_residual.ensures.1 in
    rw (p.1, p.2)
    (hands_on _ _ _ (sym c.in_err-refused_if.was ∙ c.refused_if.ensures ∙ ap (λ (b : Bool). refused_if b reasons.ListingRecordBad) c.frame_bad.ensures))

pub described_by-requires : goal.described_by-requires
described_by-requires c = framed _ c.frame_bad.ensures c.refused_if.ensures c.in_ok-refused_if.was

pub overflow_sub-input : goal.overflow_sub-input
overflow_sub-input c = let f = framed _ c.frame_bad.ensures c.refused_if.ensures c.in_ok-refused_if.was in omega (arith, f.whole, f.least)

pub returns-clause-answer : goal.returns-clause-answer
unfolding record_answer
returns-clause-answer c =
    c.of_bytes.ensures.answer
    ∙ ap₂ segment_rules c.described_by.ensures (sym (segment_length c.args.input.now))
    ∙ sym
    (goes_past _ _ (sym c.in_ok-refused_if.was ∙ c.refused_if.ensures ∙ ap (λ (b : Bool). refused_if b reasons.ListingRecordBad) c.frame_bad.ensures))

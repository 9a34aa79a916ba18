-- What every call on a segment asks first: "1; 2".
use Rattle.std.specs.Prelude.{ℕ, not, eqb}
use Rattle.answer.specs.Answer.{Answer, or_else, refused_if}
use Rattle.answer.specs.declared.Reason.TheVariants as reasons
use Rattle.segment.specs.declared.Description.{Description}
use Rattle.segment.specs.Segment.{is_segment, length_of}

-- "1 | description bad"
unfoldable pub description_rule : Description → Answer
description_rule d = refused_if (not (is_segment d)) reasons.DescriptionBad

-- "2 | segment length wrong"
unfoldable pub length_rule : Description → ℕ → Answer
length_rule d length = refused_if (not (eqb length (length_of d))) reasons.SegmentLengthWrong

-- "1; 2": of a segment of so many bytes
unfoldable pub segment_rules : Description → ℕ → Answer
segment_rules d length = or_else (description_rule d) (length_rule d length)

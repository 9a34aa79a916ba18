-- "length L (4 bytes, big-endian, at most 65,532), then L bytes: version 1, P, e (one byte each), B (2), W (8), N (2), the
-- segment."
use Rattle.std.specs.Prelude.{ℕ, ◌+◌, ◌≤◌, Bool, not, ◌||◌, List, ◌≡◌, eqb, ltb, length, get_or, drop}
use Rattle.words.specs.BigEndian.{number_at}
use Rattle.answer.specs.Answer.{Answer, or_else, refused_if}
use Rattle.answer.specs.declared.Reason.TheVariants as reasons
use Rattle.segment.specs.declared.Description.{Description}
use Rattle.segment.specs.Segment.{described}
use Rattle.segment.specs.Rules.{segment_rules}

-- "Answer 13 for fewer than 4 bytes, L over its limit or below 15, not exactly L bytes following, or another version"
unfoldable pub frame_bad : List ℕ → Bool
frame_bad input =
    ltb (length input) 4
    || (ltb 65532 (number_at 0 4 input)
    || (ltb (number_at 0 4 input) 15 || (not (eqb (length input) (4 + number_at 0 4 input)) || not (eqb (get_or input 4 0) 1))))

-- the description that the record gives; it has no ATO, which is 0
unfoldable pub described_by : List ℕ → Description
described_by input = described (get_or input 5 0) (number_at 7 2 input) (get_or input 6 0) (number_at 9 8 input) (number_at 17 2 input) 0

unfoldable pub segment_in : List ℕ → List ℕ
segment_in input = drop 19 input

-- "Answer 13 for ..; then 1, 2"
unfoldable pub record_answer : List ℕ → Answer
record_answer input =
    or_else (refused_if (frame_bad input) reasons.ListingRecordBad) (segment_rules (described_by input) (length (segment_in input)))

-- a record that is not bad, as facts
pub record Framed (input : List ℕ) : Type 0 where
  pub start : 4 ≤ length input
  pub most : number_at 0 4 input ≤ 65532
  pub least : 15 ≤ number_at 0 4 input
  pub whole : length input ≡ 4 + number_at 0 4 input
  pub version : get_or input 4 0 ≡ 1

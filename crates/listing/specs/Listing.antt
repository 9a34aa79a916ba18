-- "The listing program": what is printed of a record.
use Rattle.std.specs.Prelude.{ℕ, cond, List, ◌≡◌, length}
use Rattle.answer.specs.Answer.{is_good}
use Rattle.writing.specs.Laid.{laid}
use Rattle.closing.specs.Closing.{refused_text}
use Rattle.records.specs.Record.{record_answer, described_by, segment_in}
use Rattle.page.specs.Page.{listed_text}

-- exactly the bytes to be printed of a record
unfoldable pub listing : List ℕ → List ℕ
listing input =
    cond (is_good (record_answer input)) (listed_text (described_by input) (segment_in input)) (refused_text (record_answer input))

-- what is answered, and what the lent buffer then holds: the number of bytes of the whole listing, and of these as many as the
-- buffer has room for; what lies behind them stays
pub record Listed (input out : List ℕ) (r : ℕ) (left : List ℕ) : Type 0 where
  pub count : r ≡ length (listing input)
  pub text : left ≡ laid 0 (listing input) out

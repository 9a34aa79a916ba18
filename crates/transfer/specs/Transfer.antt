-- What a transfer works on and leaves: its blocks, how they are judged and compared, what a READ hands out and a WRITE stores.
use Rattle.std.specs.Prelude.{ℕ, ◌*◌, Bool, not, ◌||◌, cond, List, eqb}
use Rattle.answer.specs.Answer.{or_else, Answer}
use Rattle.answer.specs.Answer as answers
use Rattle.segment.specs.declared.Description.{Description}
use Rattle.segment.specs.Segment.{intervals_of, size_of}
use Rattle.segment.specs.Places.{blocks_from}
use Rattle.command.specs.declared.Command.{Command}
use Rattle.command.specs.Compares.{compares}
use Rattle.judge.specs.Judge.{judge_blocks}
use Rattle.blocks.specs.Blocks.{user_data}
use Rattle.comparison.specs.Comparison.{compare_blocks}
use Rattle.insertion.specs.Insertion.{stored_blocks}
use Rattle.refusal.specs.Refusal.{each_of}
use Rattle.sides.specs.declared.Side.{Side}
use Rattle.sides.specs.declared.Side.TheVariants.{Sent, Stored}
use Rattle.sides.specs.Sides.{checked_on}
use Rattle.rules.specs.Rules.{rules_of, start_of}
use Rattle.marks.specs.Inserted.{marks_of}

-- "the transfer's blocks"
unfoldable pub blocks_of : Description → Command → List ℕ → List ℕ
blocks_of d c segment = blocks_from d c.address c.length segment

-- the blocks s of a side, judged by its rules: the first wrong interval
unfoldable pub judged_on : Side → Description → Command → List ℕ → Answer
judged_on side d c s = judge_blocks (rules_of side d c) (checked_on side d c) (start_of d c) s

-- the first wrong interval of what is sent, else of what is stored
unfoldable pub judged : Description → Command → List ℕ → List ℕ → Answer
judged d c sent stored = or_else (judged_on Sent d c sent) (judged_on Stored d c stored)

-- whether fields are moved with the data: "moved with fields"; type 0 has none, and its blocks are moved whole
unfoldable pub whole : Description → Command → Bool
whole d c = eqb d.kind 0 || not (eqb c.code 0)

-- "A good READ fills its buffer with the transfer's blocks in order: their user data alone with 000, else all S stored bytes
-- of each."
unfoldable pub handed : Description → Command → List ℕ → List ℕ
handed d c s = cond (whole d c) s (user_data (size_of d) (c.length * intervals_of d) s)

-- "received fields are stored as received"; for 000 they are inserted
unfoldable pub received : Description → Command → List ℕ → List ℕ
received d c buffer = cond (whole d c) buffer (stored_blocks (size_of d) (intervals_of d) c.length (marks_of d c) buffer)

-- of a VERIFY with byte-check bits 01b: "and then user data is compared"; with another code "all S bytes of each block are compared. In
-- type 0 only the data is compared.": block by block, what a READ of that code would hand out against what is sent
unfoldable pub compared : Description → Command → List ℕ → List ℕ → Answer
compared d c sent stored =
    cond (compares c) (compare_blocks (each_of d c) c.length c.address (handed d c stored) sent) answers.good

-- the verdict: "15 .., after every interval check"
unfoldable pub verdict : Description → Command → List ℕ → List ℕ → Answer
verdict d c sent stored = or_else (judged d c sent stored) (compared d c sent stored)

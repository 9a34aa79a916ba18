-- The intervals of blocks that are checked, one by one: their places, their verdicts.
use Rattle.std.specs.Prelude.{ℕ, ◌+◌, ◌*◌, ◌%◌, ◌^◌, Bool, cond, List}
use Rattle.answer.specs.Answer.{Answer}
use Rattle.answer.specs.Answer as answers
use Rattle.segment.specs.declared.Description.{Description}
use Rattle.segment.specs.Segment.{intervals_of, size_of}
use Rattle.segment.specs.Places.{block_at, interval_at}
use Rattle.command.specs.declared.Command.{Command}
use Rattle.interval.specs.declared.Place.{Place}
use Rattle.interval.specs.Interval.{any_escapes, judge_interval}
use Rattle.sides.specs.declared.Side.{Side}
use Rattle.rules.specs.Rules.{rules_of, first_tag}

-- "the block's address and the interval's place in the transfer, from 0"; "Each later expected tag is one more than the one
-- before, modulo 4,294,967,296, interval after interval through the transfer."
abbrev pub place_at : Description → Command → ℕ → ℕ → Place
place_at d c j i =
    record {
      address = c.address + j;
      interval = j * intervals_of d + i;
      tag = (first_tag d c + (j * intervals_of d + i)) % 2 ^ 32;
    }

-- "If any interval of a block has it, no interval of that block is checked."
abbrev pub skipped : Side → Description → Command → List ℕ → ℕ → Bool
skipped side d c s j = any_escapes (rules_of side d c).escape (size_of d) (intervals_of d) (block_at d s j)

-- of blocks under check: what is wrong with interval i of block j, and good where it is right or its block has the escape: "then
-- intervals in order, and in one interval guard, application, reference"
abbrev pub verdict_at : Side → Description → Command → List ℕ → ℕ → ℕ → Answer
verdict_at side d c s j i =
    cond (skipped side d c s j) answers.good (judge_interval (rules_of side d c) (place_at d c j i) (interval_at d s j i))

-- What a transfer leaves, compared: with what was there before, with another outcome, with a READ of what was written.
use Rattle.std.specs.Prelude.{ℕ, ◌+◌, ◌≡◌, true, List, length, take, drop}
use Rattle.answer.specs.Answer.{is_good}
use Rattle.answer.specs.Outcome.{Outcome}
use Rattle.segment.specs.declared.Description.{Description}
use Rattle.segment.specs.Places.{offset_of, span_of}
use Rattle.command.specs.declared.Command.{Command}
use Rattle.command.specs.declared.Operation.{Operation}
use Rattle.command.specs.declared.Operation.TheVariants.{Read}
use Rattle.execute.specs.Lent.{Lent}

-- "the transfer's own blocks of the segment are overwritten and no other": the bytes before and behind them are the old
-- ones, and there are as many in all
pub record Beside (d : Description) (c : Command) (old new : List ℕ) : Type 0 where
  pub before : take (offset_of d c.address) new ≡ take (offset_of d c.address) old
  pub behind : drop (offset_of d c.address + span_of d c.length) new ≡ drop (offset_of d c.address + span_of d c.length) old
  pub long : length new ≡ length old

-- "The answer of a READ or VERIFY depends on the description, the command, the lengths and the transfer's blocks, on no other
-- block.": one answer, and what a good READ hands out
pub record Alike (c : Command) (x y : Outcome Lent) : Type 0 where
  pub answer : x.answer ≡ y.answer
  pub filled : c.operation ≡ Read → is_good x.answer ≡ true → x.left.buffer ≡ y.left.buffer

-- what a command asks, asked by another operation, with other byte-check bits
abbrev pub asked : Operation → ℕ → Command → Command
asked o bits c =
    record {
      operation = o;
      long = c.long;
      code = c.code;
      check = bits;
      address = c.address;
      length = c.length;
      tags = c.tags;
    }

-- "READ after a good WRITE gives back what was written": the READ that asks as a command asks
abbrev pub as_read : Command → Command
as_read c = asked Read c.check c

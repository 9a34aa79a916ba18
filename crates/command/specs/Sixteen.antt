-- Code 001 of a 16-byte command: what asks for blocks without a command's bytes asks like this.
use Rattle.std.specs.Prelude.{ℕ, false}
use Rattle.command.specs.declared.Operation.{Operation}
use Rattle.command.specs.declared.Command.{Command}

-- what a 16-byte command with code 001 asks of `length` blocks from `address` on: fields moved with the data, all three
-- checked where known
unfoldable pub sixteen : Operation → ℕ → ℕ → Command
sixteen o address length =
    record {
      operation = o;
      long = false;
      code = 0b001;
      check = 0;
      address = address;
      length = length;
      tags = record { reference = 0; application = 0; mask = 0 };
    }

-- What the listing and the scrub judge by.
use Rattle.segment.specs.declared.Description.{Description}
use Rattle.command.specs.declared.Command.{Command}
use Rattle.command.specs.declared.Operation.TheVariants.{Read}
use Rattle.command.specs.Sixteen.{sixteen}

-- They judge with what code 001 of a 16-byte READ of the whole segment checks: the guard, and in type 1 the reference. The type rules are
-- not applied: in type 2 such a command itself would be answered 5.
abbrev pub read_all : Description → Command
read_all d = sixteen Read d.first d.count

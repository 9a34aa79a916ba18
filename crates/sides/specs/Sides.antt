-- What is judged is one of two sides: the blocks that a command sends, or the stored ones that it names.
use Rattle.std.specs.Prelude.{ℕ, Bool, true, false, not, ◌&&◌, cond, eqb}
use Rattle.segment.specs.declared.Description.{Description}
use Rattle.command.specs.declared.Command.{Command}
use Rattle.command.specs.declared.Operation.{Operation}
use Rattle.command.specs.declared.Operation.TheVariants.{Read, Write, Verify}
use Rattle.command.specs.Compares.{compares}
use Rattle.sides.specs.declared.Side.{Side}
use Rattle.sides.specs.declared.Side.TheVariants.{Sent, Stored}

-- of a VERIFY that compares: "With another code the incoming intervals are checked as for WRITE, the stored ones are not"
abbrev pub checks_as_write : Command → Bool
checks_as_write c = compares c && not (eqb c.code 0)

-- "READ and VERIFY check the stored intervals. WRITE checks the incoming ones for codes other than 000; for 000 it has none"; a VERIFY
-- that compares checks the stored ones "With 000 .. as today"
abbrev pub checks_on : Side → Operation → Command → Bool
checks_on Sent Read c = false
checks_on Sent Write c = not (eqb c.code 0)
checks_on Sent Verify c = checks_as_write c
checks_on Stored Read c = true
checks_on Stored Write c = false
checks_on Stored Verify c = not (checks_as_write c)

-- "Type 0 checks nothing.": how many blocks of a side are checked
unfoldable pub checked_on : Side → Description → Command → ℕ
checked_on side d c = cond (eqb d.kind 0) 0 (cond (checks_on side c.operation c) c.length 0)

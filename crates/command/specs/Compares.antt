-- Document 02, "Compare while verifying": which commands compare what is stored with what is sent.
use Rattle.std.specs.Prelude.{Bool, true, false, ◌&&◌, eqb}
use Rattle.command.specs.declared.Operation.{Operation}
use Rattle.command.specs.declared.Operation.TheVariants.{Read, Write, Verify}
use Rattle.command.specs.declared.Command.{Command}

abbrev pub is_verify : Operation → Bool
is_verify Read = false
is_verify Write = false
is_verify Verify = true

-- "Byte-check bits 01b": a VERIFY that has them
unfoldable pub compares : Command → Bool
compares c = is_verify c.operation && eqb c.check 0b01

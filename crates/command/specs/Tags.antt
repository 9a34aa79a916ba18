-- Whether a command is a 32-byte one; the expected tags and the mask, which such a command brings, and any other has as 0.
use Rattle.std.specs.Prelude.{ℕ, Bool}
use Rattle.command.specs.declared.Command.{Command}

abbrev pub long : Command → Bool
long c = c.long

abbrev pub tag_of : Command → ℕ
tag_of c = c.tags.reference

abbrev pub application_of : Command → ℕ
application_of c = c.tags.application

abbrev pub mask_of : Command → ℕ
mask_of c = c.tags.mask

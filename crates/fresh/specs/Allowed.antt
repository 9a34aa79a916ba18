-- "Type rules": the codes that a type with fields allows.
use Rattle.std.specs.Prelude.{◌≤◌, ◌≡◌, true, false}
use Rattle.segment.specs.declared.Description.{Description}
use Rattle.command.specs.declared.Command.{Command}
use Rattle.command.specs.Tags.{long}

-- codes 000 to 101; type 2 has them in 32-byte commands, and in others 000 alone; the other types have no 32-byte commands
pub record Allowed (d : Description) (c : Command) : Type 0 where
  pub code : c.code ≤ 0b101
  pub other : long c ≡ false → d.kind ≡ 2 → c.code ≡ 0
  pub long : long c ≡ true → d.kind ≡ 2

-- "Order for a command": all that is decided on the description, the lengths and the command's bytes.
use Rattle.std.specs.Prelude.{List, ℕ, Result, Ok, Err}
use Rattle.answer.specs.Answer.{Answer}
use Rattle.answer.specs.declared.Refusal.{Refusal}
use Rattle.answer.specs.declared.Refusal.TheVariants.{Refused}
use Rattle.segment.specs.declared.Description.{Description}
use Rattle.segment.specs.Rules.{segment_rules}
use Rattle.command.specs.declared.Command.{Command}
use Rattle.decoding.specs.Commands.{Decoded, decode}
use Rattle.refusal.specs.declared.Lengths.{Lengths}
use Rattle.refusal.specs.Refusal.{refusal}

-- the command that goes on, or the refusal
abbrev pub Decided : Type 0
Decided = Result Command Refusal

-- what is decided behind a rule: where it does not refuse
abbrev pub behind : Answer → Decided → Decided
behind (Ok u) x = x
behind (Err e) x = Err e

abbrev pub admit_command : Description → Command → Lengths → Decided
admit_command d c lengths = behind (refusal d c lengths) (Ok c)

abbrev pub admit_decoded : Description → Decoded → Lengths → Decided
admit_decoded d (Ok c) lengths = admit_command d c lengths
admit_decoded d (Err r) lengths = Err (Refused r)

-- "1; 2", then the command's bytes, then its fields
unfoldable pub admitted : Description → Lengths → List ℕ → Decided
admitted d lengths command = behind (segment_rules d lengths.segment) (admit_decoded d (decode command) lengths)

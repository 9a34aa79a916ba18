-- What a command does: its answer, and every lent byte afterwards.
use Rattle.std.specs.Prelude.{ℕ, List, Ok, Err}
use Rattle.words.specs.Parts.{put}
use Rattle.answer.specs.Outcome.{Outcome, outcome, leaving}
use Rattle.segment.specs.declared.Description.{Description}
use Rattle.segment.specs.Places.{offset_of}
use Rattle.command.specs.declared.Command.{Command}
use Rattle.command.specs.declared.Operation.{Operation}
use Rattle.command.specs.declared.Operation.TheVariants.{Read, Write, Verify}
use Rattle.sides.specs.declared.Side.{Side}
use Rattle.sides.specs.declared.Side.TheVariants.{Sent, Stored}
use Rattle.admission.specs.Admission.{Decided, admitted}
use Rattle.transfer.specs.Transfer.{blocks_of, verdict, handed, received}
use Rattle.execute.specs.Lent.{Lent, lent, lengths_of}

-- the blocks of a side: what is sent stands in the buffer
abbrev pub under_check : Side → Description → Command → Lent → List ℕ
under_check Sent d c l = l.buffer
under_check Stored d c l = blocks_of d c l.segment

-- "On a good WRITE the transfer's own blocks of the segment are overwritten and no other"
unfoldable pub overwritten : Description → Command → Lent → List ℕ
overwritten d c l = put (offset_of d c.address) (received d c l.buffer) l.segment

-- what a good command leaves: "A READ or VERIFY never changes the segment."
abbrev pub moved_for : Operation → Description → Command → Lent → Lent
moved_for Read d c l = lent l.segment (handed d c (blocks_of d c l.segment))
moved_for Write d c l = lent (overwritten d c l) l.buffer
moved_for Verify d c l = l

unfoldable pub moved : Description → Command → Lent → Lent
moved d c l = moved_for c.operation d c l

-- a command that goes on: judged, compared where it compares, and only then moved
unfoldable pub performed : Description → Command → Lent → Outcome Lent
performed d c l = leaving (verdict d c (under_check Sent d c l) (under_check Stored d c l)) l (moved d c l)

abbrev pub executed_as : Decided → Description → Lent → Outcome Lent
executed_as (Err e) d l = outcome (Err e) l
executed_as (Ok c) d l = performed d c l

-- every command on every description, segment and buffer
unfoldable pub executed : Description → List ℕ → Lent → Outcome Lent
executed d command l = executed_as (admitted d (lengths_of l) command) d l

-- What admission has settled when a command goes on: the facts that judging and moving stand on.
use Rattle.std.specs.Prelude.{◌+◌, ◌≤◌, ◌≡◌}
use Rattle.segment.specs.declared.Description.{Description}
use Rattle.segment.specs.Segment.{IsSegment, length_of}
use Rattle.command.specs.declared.Command.{Command}
use Rattle.refusal.specs.declared.Lengths.{Lengths}
use Rattle.refusal.specs.Refusal.{buffer_of}

pub record Ready (d : Description) (c : Command) (lengths : Lengths) : Type 0 where
  pub described : IsSegment d
  pub whole : lengths.segment ≡ length_of d
  pub from : d.first ≤ c.address
  pub to : c.address + c.length ≤ d.first + d.count
  pub room : lengths.buffer ≡ buffer_of d c
  pub plain : d.kind ≡ 0 → c.code ≡ 0

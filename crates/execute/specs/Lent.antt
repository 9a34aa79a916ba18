-- What is lent to a command: the segment and the buffer.
use Rattle.std.specs.Prelude.{ℕ, List, length}
use Rattle.refusal.specs.declared.Lengths.{Lengths}

pub record Lent : Type 0 where
  pub segment : List ℕ
  pub buffer : List ℕ

abbrev pub lent : List ℕ → List ℕ → Lent
lent s b = record { segment = s; buffer = b }

abbrev pub lengths_of : Lent → Lengths
lengths_of l = record { segment = length l.segment; buffer = length l.buffer }

-- What judging, comparing and moving ask of their callers: inner matter, which the contract of `execute::execute` does not name.
use Rattle.std.specs.Prelude.{ℕ, ◌+◌, ◌^◌, ◌≤◌, true, cond, ◌≡◌}
use Rattle.segment.specs.declared.Description.{Description}
use Rattle.segment.specs.Segment.{IsSegment, intervals_of, size_of, stored_of}
use Rattle.segment.specs.Places.{span_of}
use Rattle.command.specs.declared.Command.{Command}
use Rattle.command.specs.Compares.{compares}
use Rattle.comparison.specs.declared.Cut.{Cut}
use Rattle.refusal.specs.Refusal.{moved_of}
use Rattle.sides.specs.declared.Side.{Side}
use Rattle.sides.specs.Sides.{checked_on}
use Rattle.transfer.specs.Transfer.{whole}

-- the transfer is one of a segment
pub record Shaped (d : Description) (c : Command) : Type 0 where
  pub described : IsSegment d
  pub few : c.length ≤ 65536
  pub end : c.address + c.length ≤ 2 ^ 63

-- n bytes are the blocks of a side, where it is checked
abbrev pub Sided : Side → Description → Command → ℕ → Type 0
Sided side d c n = (checked_on side d c ≡ 0 → ⊥) → n ≡ span_of d c.length

-- n bytes are the transfer's buffer
pub record Fitted (d : Description) (c : Command) (n : ℕ) : Type 0 where
  pub room : n ≡ moved_of d c
  pub plain : d.kind ≡ 0 → c.code ≡ 0

-- what of a stored block is compared: all of it, or of each interval the data
unfoldable pub cut_of : Description → Command → Cut
cut_of d c =
    cond (whole d c) (record { pieces = 1; size = stored_of d; stride = stored_of d })
    (record { pieces = intervals_of d; size = size_of d; stride = size_of d + 8 })

-- where blocks are compared, n bytes are sent and m are stored
abbrev pub Paired : Description → Command → ℕ → ℕ → Type 0
Paired d c n m = compares c ≡ true → (Fitted d c n) × (m ≡ span_of d c.length)

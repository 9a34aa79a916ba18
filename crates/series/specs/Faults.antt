-- Which block a call names, and which lines the listing has for a block.
use Rattle.std.specs.Prelude.{ℕ, ◌+◌, ◌≤◌, ◌<◌, true, false, ◌⊎◌, List, ◌≡◌, length, get_or}
use Rattle.segment.specs.declared.Description.{Description}
use Rattle.segment.specs.Segment.{described}
use Rattle.lines.specs.declared.Line.{Line}
use Rattle.lines.specs.declared.State.TheVariants.{Guard, Ref}
use Rattle.contents.specs.Contents.{lines_of}
use Rattle.scrub.specs.Scrub.{faulty_at}

-- of the blocks from a place on to before another: the one at `at` has a fault, none before it has, and a is its address
pub record FirstFault (d : Description) (s : List ℕ) (place next a : ℕ) : Type 0 where
  pub at : ℕ
  pub from : place ≤ at
  pub within : at < next
  pub here : faulty_at d s at ≡ true
  pub earlier : (j : ℕ) → place ≤ j → j < at → faulty_at d s j ≡ false
  pub named : a ≡ d.first + at

-- the segment as a record describes it to the listing program: a record has no ATO, which is 0
abbrev pub recorded : Description → Description
recorded d = described d.kind d.block d.exponent d.first d.count 0

-- the listing of the segment has a line in state `guard` or `ref` for the block at a place: the one numbered `line`, counted from 0 behind
-- the header (x is what get_or gives past the end)
pub record FaultyLine (d : Description) (s : List ℕ) (at : ℕ) (x : Line) : Type 0 where
  pub line : ℕ
  pub within : line < length (lines_of d s)
  pub address : (get_or (lines_of d s) line x).address ≡ d.first + at
  pub state : ((get_or (lines_of d s) line x).state ≡ Guard) ⊎ ((get_or (lines_of d s) line x).state ≡ Ref)

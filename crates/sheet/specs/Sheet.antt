-- Lines: their text, how many there are in a state, and what printing them leaves and asks.
use Rattle.std.specs.Prelude.{ℕ, ◌+◌, ◌*◌, ◌≤◌, ◌^◌, List, [], ◌∷◌, ◌++◌, ◌≡◌, length}
use Rattle.writing.specs.declared.Pen.{Pen}
use Rattle.writing.specs.Printed.{Printed}
use Rattle.lines.specs.declared.Line.{Line}
use Rattle.lines.specs.declared.State.{State}
use Rattle.lines.specs.declared.State.TheVariants.{Skipped, Guard, Ref, Ok}
use Rattle.lines.specs.Lines.{line_text}
use Rattle.sheet.specs.declared.Counts.{Counts}

-- how many lines are in a state
abbrev pub faulty : State → ℕ
faulty Skipped = 0
faulty Guard = 1
faulty Ref = 1
faulty Ok = 0

abbrev pub skips : State → ℕ
skips Skipped = 1
skips Guard = 0
skips Ref = 0
skips Ok = 0

unfoldable pub count_of : (State → ℕ) → List Line → ℕ
count_of f [] = 0
count_of f (l ∷ ls) = f l.state + count_of f ls

unfoldable pub lines_text : List Line → List ℕ
lines_text [] = []
lines_text (l ∷ ls) = line_text l ++ lines_text ls

-- ---- what the functions that print lines leave, and what they ask

-- the lines ls were printed with a pen, p before and q after, and counted, from c to d
pub record PrintedLines (ls : List Line) (p : Pen) (c : Counts) (q : Pen) (d : Counts) : Type 0 where
  pub text : Printed (lines_text ls) p q
  pub lines : d.lines ≡ c.lines + length ls
  pub faults : d.faults ≡ c.faults + count_of faulty ls
  pub skipped : d.skipped ≡ c.skipped + count_of skips ls

-- the pen and the counts have room for k lines more, of at most 69 bytes each
pub record Room (p : Pen) (c : Counts) (k : ℕ) : Type 0 where
  pub at : p.at + k * 69 ≤ 2 ^ 31
  pub lines : c.lines + k ≤ 2 ^ 31
  pub faults : c.faults + k ≤ 2 ^ 31
  pub skipped : c.skipped + k ≤ 2 ^ 31

-- Which interval of a block, or of a run of blocks, is the first wrong one.
use Rattle.std.specs.Prelude.{◌≡◌, ℕ, ◌+◌, ◌*◌, ◌%◌, ◌^◌, ◌≤◌, cond, List, length}
use Rattle.answer.specs.Answer as answers
use Rattle.answer.specs.Answer.{Answer}
use Rattle.interval.specs.declared.Rules.{Rules}
use Rattle.interval.specs.declared.Place.{Place}
use Rattle.interval.specs.Interval.{any_escapes, judge_interval}
use Rattle.judge.specs.FirstOf.{first_of}

-- so many blocks and intervals on, with the tag that is expected there
abbrev pub place_on : Place → ℕ → ℕ → ℕ → Place
place_on p blocks intervals tag = record { address = p.address + blocks; interval = p.interval + intervals; tag = tag }

-- "Each later expected tag is one more than the one before, modulo 4,294,967,296, interval after interval through the
-- transfer"
abbrev pub next_interval : Place → Place
next_interval p = record { address = p.address; interval = p.interval + 1; tag = (p.tag + 1) % 2 ^ 32 }

-- past the n intervals of a block, looked at or not
abbrev pub next_block : ℕ → Place → Place
next_block n p = record { address = p.address + 1; interval = p.interval + n; tag = (p.tag + n) % 2 ^ 32 }

-- k intervals of one block
unfoldable pub judge_intervals : Rules → ℕ → Place → List ℕ → Answer
judge_intervals r k p s = first_of (judge_interval r) next_interval (r.size + 8) k p s

-- "If any interval of a block has it, no interval of that block is checked."
unfoldable pub judge_block : Rules → Place → List ℕ → Answer
judge_block r p s = cond (any_escapes r.escape r.size r.intervals s) answers.good (judge_intervals r r.intervals p s)

-- "then intervals in order": k blocks from the place on
unfoldable pub judge_blocks : Rules → ℕ → Place → List ℕ → Answer
judge_blocks r k p s = first_of (judge_block r) (next_block r.intervals) (r.intervals * (r.size + 8)) k p s

-- what a run of k blocks asks of its caller: the blocks are all there, and the place's numbers have room to move on
pub record Run (r : Rules) (k : ℕ) (p : Place) (s : List ℕ) : Type 0 where
  pub whole : k * (r.intervals * (r.size + 8)) ≡ length s
  pub addresses : p.address + k ≤ 2 ^ 63
  pub intervals : p.interval + k * r.intervals ≤ 2 ^ 32
  pub few : r.intervals ≤ 8
  pub size : r.size ≤ 4096

-- what k intervals of one block ask
pub record Stretch (r : Rules) (k : ℕ) (p : Place) (s : List ℕ) : Type 0 where
  pub whole : k * (r.size + 8) ≡ length s
  pub intervals : p.interval + k ≤ 2 ^ 32

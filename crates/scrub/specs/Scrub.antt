-- Document 02, "Scrubbing a few blocks at a time". A place is the number of blocks before it: that of the first block is 0, and N is behind
-- the last.
use Rattle.std.specs.Prelude.{ℕ, zero, suc, ◌+◌, ◌-◌, Bool, not, ◌&&◌, cond, List, ◌≡◌, eqb, leb, length}
use Rattle.answer.specs.Answer.{Answer, is_good, or_else}
use Rattle.segment.specs.declared.Description.{Description}
use Rattle.segment.specs.Rules.{segment_rules}
use Rattle.segment.specs.Places.{place_rule, block_at}
use Rattle.sides.specs.declared.Side.TheVariants.{Stored}
use Rattle.rules.specs.Rules.{rules_of}
use Rattle.rules.specs.Intervals.{place_at}
use Rattle.rules.specs.ReadAll.{read_all}
use Rattle.judge.specs.Judge.{judge_block}
use Rattle.scrub.specs.declared.Scrubbed.{Scrubbed}

-- ---- "judges stored intervals as the listing program does": whether the block at a place has a fault, one of its intervals being wrong. Type 0
-- has none, and no byte of it is looked at (`block_at` is of types 1 to 3)
unfoldable pub faulty_at : Description → List ℕ → ℕ → Bool
faulty_at d s at =
    not (eqb d.kind 0) && not (is_good (judge_block (rules_of Stored d (read_all d)) (place_at d (read_all d) at 0) (block_at d s at)))

-- ---- of k blocks from a place on: "how many had a fault"
unfoldable pub faults_from : Description → List ℕ → ℕ → ℕ → ℕ
faults_from d s at zero = 0
faults_from d s at (suc k) = cond (faulty_at d s at) 1 0 + faults_from d s (at + 1) k

-- "and the address of the first, or 0 where none had"
unfoldable pub first_from : Description → List ℕ → ℕ → ℕ → ℕ
first_from d s at zero = 0
first_from d s at (suc k) = cond (faulty_at d s at) (d.first + at) (first_from d s (at + 1) k)

-- ---- a step: "It covers exactly the smaller of that number and the blocks left."
unfoldable pub covered_of : Description → ℕ → ℕ → ℕ
covered_of d place blocks = cond (leb blocks (d.count - place)) blocks (d.count - place)

-- a step from a place over a number of blocks returns the count of those that it judged, and leaves in two places how many of them had a
-- fault, and the address of the first
pub record Stepped (d : Description) (s : List ℕ) (place blocks count f a : ℕ) : Type 0 where
  pub judged : count ≡ covered_of d place blocks
  pub faults : f ≡ faults_from d s place count
  pub first : a ≡ first_from d s place count

-- ---- a call: "Refusals: 1, then 2, then 7 for a place above N."
unfoldable pub scrub_rules : Description → ℕ → ℕ → Answer
scrub_rules d length place = or_else (segment_rules d length) (place_rule d place)

-- "It hands back the new place, the blocks judged in this call, how many had a fault, and the address of the first": after so many blocks
abbrev pub after : Answer → Description → List ℕ → ℕ → ℕ → Scrubbed
after a d s place judged =
    record {
      answer = a;
      next = place + judged;
      judged = judged;
      faults = faults_from d s place judged;
      first = first_from d s place judged;
    }

-- "A refused call hands back the place it was given and zeros."
abbrev pub refused : Answer → ℕ → Scrubbed
refused a place = record { answer = a; next = place; judged = 0; faults = 0; first = 0 }

unfoldable pub scrubbed : Description → List ℕ → ℕ → ℕ → Scrubbed
scrubbed d s place blocks =
    cond (is_good (scrub_rules d (length s) place))
    (after (scrub_rules d (length s) place) d s place (covered_of d place blocks))
    (refused (scrub_rules d (length s) place) place)

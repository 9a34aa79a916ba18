-- `judge::judge_blocks`: the blocks that are left give, from the place reached, what all of them give; each is judged by its own bytes.
use Rattle.std.proofs.Common.{◌≡◌, ℕ, ◌+◌, ◌-◌, ◌*◌, List, drop}
use Rattle.interval.specs.declared.Rules.{Rules}
use Rattle.interval.specs.declared.Place.{Place}
use Rattle.judge.specs.FirstOf.{first_of}
use Rattle.judge.specs.Judge.{judge_block, judge_blocks, place_on, next_block, Run}
use Rattle.judge.proofs.judge_blocks.Given as goal

-- where block k begins
abbrev pub reach : Rules → ℕ → ℕ
reach r k = k * (r.intervals * (r.size + 8))

pub record Going (r : Rules) (n : ℕ) (p : Place) (s : List ℕ) (k tag : ℕ) : Type 0 where
  pub run : Run r (n - k) (place_on p k (k * r.intervals) tag) (drop (reach r k) s)
  pub same : first_of (judge_block r) (next_block r.intervals) (r.intervals * (r.size + 8)) (n - k) (place_on p k (k * r.intervals) tag) (drop (reach r k) s)
      ≡ judge_blocks r n p s

abbrev pub invariant-loop-k : goal.invariant-loop-k
invariant-loop-k l = Going l.r l.count l.p l.s l.k l.tag

-- `judge::judge_intervals`: the intervals that are left give, from the place reached, what all of them give.
use Rattle.std.proofs.Common.{◌≡◌, ℕ, ◌+◌, ◌-◌, ◌*◌, List, drop}
use Rattle.interval.specs.declared.Rules.{Rules}
use Rattle.interval.specs.declared.Place.{Place}
use Rattle.interval.specs.Interval.{judge_interval}
use Rattle.judge.specs.FirstOf.{first_of}
use Rattle.judge.specs.Judge.{judge_intervals, place_on, next_interval}
use Rattle.judge.proofs.judge_intervals.Given as goal

abbrev pub Judging : Rules → ℕ → Place → List ℕ → ℕ → ℕ → Type 0
Judging r n p s k tag =
    first_of (judge_interval r) next_interval (r.size + 8) (n - k) (place_on p 0 k tag) (drop (k * (r.size + 8)) s) ≡ judge_intervals r n p s

abbrev pub invariant-loop-k : goal.invariant-loop-k
invariant-loop-k l = Judging l.r l.count l.p l.s l.k l.tag

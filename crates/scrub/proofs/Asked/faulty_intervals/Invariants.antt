-- `scrub::Asked::faulty_intervals`: no interval so far has the escape; whether one was wrong, with those that are left, gives what all of them give.
use mathlib.Core.Path.{◌≡◌}
use mathlib.Core.Bool.{Bool, not, ◌||◌}
use mathlib.Core.List.{List}
use Prim.Native.Nat.{ℕ, ◌+◌, ◌*◌, ◌-◌, ◌^◌, ◌≤◌}
use lib.ListN.{length, drop}
use Rattle.answer.specs.Answer.{is_good}
use Rattle.interval.specs.declared.Rules.{Rules}
use Rattle.interval.specs.declared.Place.{Place}
use Rattle.interval.specs.Interval.{any_escapes, judge_interval}
use Rattle.judge.specs.FirstOf.{first_of}
use Rattle.judge.specs.Judge.{judge_intervals, next_interval}
use Rattle.scrub.proofs.Asked.faulty_intervals.Given as goal

module _ (r : Rules) where
  -- whether any of k intervals is wrong
  abbrev pub any_wrong : ℕ → Place → List ℕ → Bool
  any_wrong k p s = not (is_good (first_of (judge_interval r) next_interval (r.size + 8) k p s))

pub record Going (r : Rules) (p : Place) (s : List ℕ) (here : Place) (wrong : Bool) (left i : ℕ) : Type 0 where
  pub from : i + left * (r.size + 8) ≡ length s
  pub room : here.interval + left ≤ 2 ^ 32
  pub escaped : any_escapes r.escape r.size left (drop i s) ≡ any_escapes r.escape r.size r.intervals s
  pub same : (wrong || any_wrong r left here (drop i s)) ≡ not (is_good (judge_intervals r r.intervals p s))

abbrev pub invariant-loop-k : goal.invariant-loop-k
invariant-loop-k l = Going l.r l.initial.here l.s l.here l.wrong (l.r.intervals - l.k) (l.k * (l.r.size + 8))

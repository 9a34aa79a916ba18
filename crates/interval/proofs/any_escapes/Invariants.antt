-- `interval::any_escapes`: the intervals that are left have an escape exactly when all of them have.
use mathlib.Core.Path.{◌≡◌}
use mathlib.Core.List.{List}
use Prim.Native.Nat.{ℕ, ◌+◌, ◌*◌, ◌-◌}
use lib.ListN.{length, drop}
use Rattle.interval.specs.declared.Escape.{Escape}
use Rattle.interval.specs.Interval.{any_escapes}
use Rattle.interval.proofs.any_escapes.Given as goal

-- where the intervals that are left begin
pub record Looking (e : Escape) (size count : ℕ) (s : List ℕ) (left i : ℕ) : Type 0 where
  pub from : i + left * (size + 8) ≡ length s
  pub same : any_escapes e size left (drop i s) ≡ any_escapes e size count s

abbrev pub invariant-loop-k : goal.invariant-loop-k
invariant-loop-k l = Looking l.e l.size l.count l.s (l.count - l.k) (l.k * (l.size + 8))

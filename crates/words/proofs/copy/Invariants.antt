-- `words::copy`: what is copied and what is left make up the source.
use mathlib.Core.Path.{◌≡◌}
use mathlib.Core.List.{◌++◌}
use Prim.Native.Nat.{◌≤◌}
use lib.ListN.{length, take, drop}
use Rattle.words.proofs.copy.Given as goal

abbrev pub invariant-loop-i : goal.invariant-loop-i
invariant-loop-i l = (length l.d ≡ length l.fn.d) × (l.i ≤ length l.s) × (take l.i l.d ++ drop l.i l.s ≡ l.s)

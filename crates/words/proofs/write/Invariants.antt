-- `words::write`: the bytes still to be written, before those that stand, are the bytes of the whole number.
use mathlib.Core.Path.{◌≡◌}
use mathlib.Core.List.{◌++◌}
use Prim.Native.Nat.{◌≤◌}
use lib.ListN.{length, drop}
use Rattle.words.specs.BigEndian.{bytes}
use Rattle.words.proofs.write.Given as goal

abbrev pub invariant-loop-i : goal.invariant-loop-i
invariant-loop-i l = (length l.d ≡ length l.fn.d) × (l.i ≤ length l.fn.d) × (bytes l.i l.rest ++ drop l.i l.d ≡ bytes (length l.fn.d) l.n)

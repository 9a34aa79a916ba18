-- `words::xor_into`: what is done, and the exclusive or of what is left, make up the whole.
use mathlib.Core.Path.{◌≡◌}
use mathlib.Core.List.{◌++◌}
use Prim.Native.Nat.{◌≤◌}
use lib.ListN.{length, take, drop}
use Rattle.words.specs.Xor.{xors}
use Rattle.words.proofs.xor_into.Given as goal

abbrev pub invariant-loop-i : goal.invariant-loop-i
invariant-loop-i l = (length l.d ≡ length l.fn.d) × (l.i ≤ length l.s) × (take l.i l.d ++ xors (drop l.i l.d) (drop l.i l.s) ≡ xors l.fn.d l.s)

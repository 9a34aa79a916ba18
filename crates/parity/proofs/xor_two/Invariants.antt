-- `parity::xor_two`: what is done, and the exclusive or of what is left, make up the whole.
use mathlib.Core.Path.{◌≡◌}
use mathlib.Core.List.{◌++◌}
use Prim.Native.Nat.{◌≤◌}
use lib.ListN.{length, take, drop}
use Rattle.words.specs.Xor.{xors}
use Rattle.parity.proofs.xor_two.Given as goal

abbrev pub invariant-loop-i : goal.invariant-loop-i
invariant-loop-i l = (length l.d ≡ length l.fn.d) × ((l.i ≤ length l.a) × (take l.i l.d ++ xors (xors (drop l.i l.d) (drop l.i l.a)) (drop l.i l.b) ≡ xors (xors l.fn.d l.a) l.b))

-- `words::read`: what is left to read gives, behind what was read, the whole number; i bytes make less than 256 ^ i.
use mathlib.Core.Path.{◌≡◌}
use Prim.Native.Nat.{◌≤◌, ◌<◌, ◌^◌}
use lib.ListN.{length, drop}
use Rattle.words.specs.BigEndian.{number_from, number}
use Rattle.words.proofs.read.Given as goal

abbrev pub invariant-loop-b : goal.invariant-loop-b
invariant-loop-b l = (l.b-index ≤ length l.s) × (l.n < 256 ^ l.b-index) × (number_from l.n (drop l.b-index l.s) ≡ number l.s)

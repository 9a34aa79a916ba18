-- `blocks::store_blocks`: one block after the other is put in its place.
use mathlib.Core.List.{List}
use Prim.Native.Nat.{ℕ, ◌+◌, ◌*◌, ◌-◌}
use lib.ListN.{take}
use Rattle.words.specs.Parts.{put}
use Rattle.blocks.proofs.Filling.{Filling}
use Rattle.blocks.proofs.store_blocks.Given as goal

abbrev pub invariant-loop-i : goal.invariant-loop-i
invariant-loop-i z = Filling (λ (u : ℕ) (l : List ℕ). take z.stored l) (λ u. u) z.stored z.stored (z.at + z.count * z.stored) z.s z.fn.segment (put z.at z.s z.fn.segment) (z.count - z.i) (z.i * z.stored) (z.at + z.i * z.stored) 0 z.segment

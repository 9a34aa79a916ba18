-- `blocks::take_user_data`: the user data of one interval after the other is put in its place.
use mathlib.Core.List.{List}
use Prim.Native.Nat.{ℕ, ◌+◌, ◌*◌, ◌-◌}
use lib.ListN.{length}
use Rattle.words.specs.Parts.{put}
use Rattle.field.specs.Field.{data_of}
use Rattle.blocks.specs.Blocks.{user_data}
use Rattle.blocks.proofs.Filling.{Filling}
use Rattle.blocks.proofs.take_user_data.Given as goal

abbrev pub invariant-loop-i : goal.invariant-loop-i
invariant-loop-i z = Filling (λ (u : ℕ) (l : List ℕ). data_of z.size l) (λ u. u) (z.size + 8) z.size (length z.fn.d) z.s z.fn.d (put 0 (user_data z.size z.count z.s) z.fn.d) (z.count - z.i) (z.i * (z.size + 8)) (z.i * z.size) 0 z.d

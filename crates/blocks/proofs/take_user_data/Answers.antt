-- `blocks::take_user_data`: the user data of one interval after the other is put in its place.
use mathlib.Core.Path.{refl, ◌∙◌}
use native.Mathlib.Nat.{zero-add, le_refl, le_of_eq}
use Prim.Native.Nat.{◌+◌, ◌*◌}
use native.Mathlib.Omega.{arith}
use Rattle.field.specs.Field.{data_of}
use Rattle.blocks.specs.Blocks.{user_data}
use Rattle.blocks.proofs.Filling.{turn, done, begin}
use Rattle.words.proofs.Parts.{part_at}
use Rattle.blocks.proofs.Places.{put_all}
use Rattle.blocks.proofs.Laws.{user_data_length}
use Rattle.blocks.proofs.take_user_data.Goals as goal

pub loop-i-init : goal.loop-i-init
unfolding user_data
loop-i-init c =
    let whole = c.requires.size_value in
    begin _ _ _ _ 0 _ _ 0 _ _ _ whole (rw zero-add c.requires.size_value_2) (le_refl _) refl (user_data_length _ _ _ (le_of_eq whole)) (omega arith) (omega arith) (omega arith)

pub loop-i-preserved : goal.loop-i-preserved
unfolding data_of
loop-i-preserved c =
    let l = c.loop-i in
    turn l.invariant (omega arith) (omega arith) (omega arith) _ _ (omega arith) c.copy.auto.d (c.copy.ensures ∙ part_at (l.i * (c.args.size + 8)) _ _) refl

pub returns : goal.returns
returns c =
    done c.loop-i.invariant (omega arith) ∙ put_all _ _ (user_data_length _ _ _ (le_of_eq c.requires.size_value) ∙ c.requires.size_value_2)

-- `blocks::store_blocks`: one block after the other is put in its place.
use mathlib.Core.Path.{refl, sym, ◌∙◌}
use Prim.Native.Nat.{◌*◌}
use native.Mathlib.Omega.{arith}
use Rattle.blocks.proofs.Filling.{turn, done, begin}
use Rattle.words.proofs.Parts.{part_at}
use Rattle.blocks.proofs.Pieces.{runs_same}
use Rattle.blocks.proofs.store_blocks.Goals as goal

pub loop-i-init : goal.loop-i-init
loop-i-init c =
    begin _ _ _ _ _ _ _ 0 _ _ _ c.requires.stored_value refl c.requires.stored_in_bounds (runs_same _ _ _ c.requires.stored_value) (sym c.requires.stored_value) (omega arith) (omega arith) (omega arith)

pub loop-i-preserved : goal.loop-i-preserved
loop-i-preserved c =
    let l = c.loop-i in
    turn l.invariant (omega arith) (omega arith) (omega arith) _ _ (omega arith) c.copy.auto.d (c.copy.ensures ∙ part_at (l.i * c.args.stored) _ _) refl

pub returns : goal.returns
returns c = done c.loop-i.invariant (omega arith)

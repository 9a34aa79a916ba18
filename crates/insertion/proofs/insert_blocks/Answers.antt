-- `insertion::insert_blocks`: one stored block after the other is put in its place.
use Rattle.std.proofs.Common.{◌*◌, refl, sym, ap, le_of_eq, arith}
use Rattle.blocks.proofs.Filling.{within, turn, done, begin}
use Rattle.blocks.proofs.Pieces.{of_part}
use Rattle.insertion.specs.Insertion.{stored_block, stored_blocks}
use Rattle.insertion.proofs.Laws.{marks_later, blocks_length, block_behind}
use Rattle.insertion.proofs.insert_blocks.Goals as goal

pub loop-i-init : goal.loop-i-init
unfolding stored_blocks
loop-i-init c =
    let whole = c.requires.size_value in
    (begin _ _ _ _ _ _ _ _ _ _ _ whole refl c.requires.size_in_bounds refl (blocks_length _ _ _ _ _ (le_of_eq whole)) (omega arith) (omega arith) (omega arith), refl)

pub loop-i-preserved : goal.loop-i-preserved
loop-i-preserved c =
    let l = c.loop-i in
    let f = l.invariant.0 in
    let here = within f (omega arith) in
    let by = ap (λ n. c.args.intervals * n) (sym l.invariant.1) in (
      turn f (omega arith) (omega arith) (omega arith) _ _ (omega arith) c.insert_block.auto.d
          (of_part (stored_block _ _ _) _ (l.i * (c.args.intervals * c.args.size)) _ _ (block_behind _ _ _) here c.insert_block.ensures)
          (marks_later _ _ _ _ by refl),
      l.invariant.1,
    )

pub returns : goal.returns
returns c = done c.loop-i.invariant.0 (omega arith)

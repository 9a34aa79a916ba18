-- `insertion::insert_block`: one stored interval after the other is put in its place.
use Rattle.std.proofs.Common.{◌+◌, ◌-◌, ◌*◌, length}
use Rattle.words.specs.Parts.{put}
use Rattle.blocks.proofs.Filling.{Filling}
use Rattle.insertion.specs.Insertion.{with_field, later, stored_block}
use Rattle.insertion.proofs.insert_block.Given as goal

abbrev pub invariant-loop-i : goal.invariant-loop-i
invariant-loop-i l = Filling (with_field l.size) (later 1) l.size (l.size + 8) (length l.fn.d) l.s l.fn.d (put 0 (stored_block l.size l.intervals l.initial.here l.s) l.fn.d) (l.intervals - l.i) (l.i * l.size) (l.i * (l.size + 8)) l.here l.d

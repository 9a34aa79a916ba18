-- `insertion::insert_blocks`: one stored block after the other is put in its place.
use Rattle.std.proofs.Common.{◌≡◌, ◌+◌, ◌-◌, ◌*◌}
use Rattle.words.specs.Parts.{put}
use Rattle.blocks.proofs.Filling.{Filling}
use Rattle.insertion.specs.Insertion.{later, stored_block, stored_blocks}
use Rattle.insertion.proofs.insert_blocks.Given as goal

abbrev pub invariant-loop-i : goal.invariant-loop-i
invariant-loop-i l =
    (Filling (stored_block l.size l.intervals) (later l.intervals) l.part l.stored (l.at + l.count * l.stored) l.s l.fn.segment (put l.at (stored_blocks l.size l.intervals l.count l.initial.here l.s) l.fn.segment) (l.count - l.i) (l.i * l.part) (l.at + l.i * l.stored) l.here l.segment)
    × (l.here.step ≡ l.fn.m.step)

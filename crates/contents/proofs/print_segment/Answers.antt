-- `contents::print_segment`: type 0 has no lines; the others have those of their blocks.
use Rattle.contents.proofs.SegmentLaws.{lines_plain, blocks_run, blocks_room, blocks_printed}
use Rattle.contents.proofs.print_segment.Goals as goal

pub returns-then-d-eq0 : goal.returns-then-d-eq0
returns-then-d-eq0 c = lines_plain _ _ c.args.segment.is c.requires.d_value c.if-d-eq0.true

pub print_blocks-requires : goal.print_blocks-requires
print_blocks-requires c =
    let on = c.if-d-eq0.false in
    let rules = c.rules-r.ensures in
    let first = c.start-p.ensures in
    record {
      run = blocks_run _ _ c.args.segment.is c.requires.d_value on c.sixteen-c.ensures rules first;
      room = blocks_room _ c.args.s.now c.args.segment.is c.requires.d_value on c.sixteen-c.ensures rules first c.requires.room;
    }

pub returns : goal.returns
returns c =
    blocks_printed _ _ c.args.segment.is c.requires.d_value c.if-d-eq0.false c.sixteen-c.ensures c.rules-r.ensures c.start-p.ensures c.print_blocks.ensures

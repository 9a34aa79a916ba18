-- `words::write2`: the law of writing at a place, at 2 bytes.
use Rattle.words.proofs.BigEndian.{put_part}
use Rattle.words.proofs.write2.Goals as goal

pub returns : goal.returns
returns c = put_part _ 2 _ _ _ c.requires c.write.ensures

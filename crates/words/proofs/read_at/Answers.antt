-- `words::read_at`: the laws of reading at a place, at any width.
use Rattle.words.proofs.BigEndian.{read_at}
use Rattle.words.proofs.read_at.Goals as goal

pub returns : goal.returns
returns c = read_at _ _ _ _ c.read.ensures

-- `writing::put`: the byte is stored where there is room, and where there is none the buffer stays.
use Rattle.writing.proofs.Writing.{written_byte, written_out}
use Rattle.writing.proofs.put.Goals as goal

pub returns-then-at-out : goal.returns-then-at-out
returns-then-at-out c = written_byte _ _ _

pub returns : goal.returns
returns c = written_out _ _ _ c.if-at-out.false

-- `writing::put_word`: the bytes that stand, and one byte more a turn.
use lib.ListN.{take}
use Rattle.writing.specs.Laid.{Written}
use Rattle.writing.proofs.put_word.Given as goal

abbrev pub invariant-loop-b : goal.invariant-loop-b
invariant-loop-b l = Written (take l.b-index l.word) l.at l.fn.out l.end l.out

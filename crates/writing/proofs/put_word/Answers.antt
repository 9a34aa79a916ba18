-- `writing::put_word`: the bytes that stand, and one byte more a turn.
use native.Mathlib.Numerals.{add-one}
use native.Mathlib.Omega.{arith}
use lib.Seq.{take-suc, take_all, length-take-le}
use Rattle.writing.proofs.Writing.{written_none, written_then}
use Rattle.writing.proofs.put_word.Goals as goal

pub loop-b-init : goal.loop-b-init
loop-b-init c = written_none _ _

pub put-end-requires : goal.put-end-requires
put-end-requires c = let l = c.loop-b in omega (arith, l.invariant.end, length-take-le l.b-index c.args.word.now l.auto.b-index-end)

pub loop-b-preserved : goal.loop-b-preserved
loop-b-preserved c = let l = c.loop-b in rw (add-one, take-suc _ l.b-index 0 c.loop-b-test.true) (written_then l.invariant c.put-end.ensures)

pub returns : goal.returns
returns c = let l = c.loop-b in rw (take_all l.b-index _ c.loop-b-test.false) at l.invariant

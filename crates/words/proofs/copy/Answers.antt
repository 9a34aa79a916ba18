-- `words::copy`: what is copied and what is left make up the source.
use native.Mathlib.Omega.{arith}
use lib.ListN.{length-set}
use Rattle.words.proofs.Parts.{copied_next, copied}
use Rattle.words.proofs.copy.Goals as goal

pub loop-i-preserved : goal.loop-i-preserved
loop-i-preserved c =
    let l = c.loop-i in
    (simp length-set l.invariant.0, omega arith, copied_next l.d _ l.i (omega arith) (omega arith) l.invariant.2)

pub returns : goal.returns
returns c = copied _ _ c.loop-i.i (omega arith) (omega arith) c.loop-i.invariant.2

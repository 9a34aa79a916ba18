-- `words::write`: the bytes still to be written, before those that stand, are the bytes of the whole number.
use mathlib.Core.Path.{◌≡◌}
use mathlib.Core.List.{List, ◌++◌}
use Prim.Native.Nat.{ℕ, zero, suc, ◌≤◌}
use native.Mathlib.Omega.{arith}
use lib.ListN.{drop, length-set}
use Rattle.words.specs.BigEndian.{bytes}
use Rattle.words.proofs.BigEndian.{write_next}
use Rattle.words.proofs.write.Goals as goal

written : (d whole : List ℕ) (i n : ℕ) → i ≤ 0 → bytes i n ++ drop i d ≡ whole → d ≡ whole
unfolding bytes
written d whole zero n h e = e
written d whole (suc i) n h e = absurd (omega arith)

pub loop-i-preserved : goal.loop-i-preserved
loop-i-preserved c =
    let l = c.loop-i in
    (simp length-set l.invariant.0, omega arith, write_next l.d _ l.i l.rest c.loop-i-test.true (omega arith) l.invariant.2)

pub returns : goal.returns
returns c = written _ _ c.loop-i.i _ c.loop-i-test.false c.loop-i.invariant.2

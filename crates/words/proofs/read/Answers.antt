-- `words::read`: what is left to read gives, behind what was read, the whole number; i bytes make less than 256 ^ i.
use mathlib.Core.Path.{refl}
use Prim.Native.Nat.{zero-le}
use native.Mathlib.Omega.{arith}
use lib.Dec.{lit<}
use Rattle.words.specs.BigEndian.{number}
use Rattle.words.proofs.BigEndian.{read_next, read_end, grown, room}
use Rattle.words.proofs.read.Goals as goal

pub loop-b-init : goal.loop-b-init
unfolding number
loop-b-init c = (zero-le, lit< tt, refl)

pub overflow_mul-n : goal.overflow_mul-n
overflow_mul-n c = omega (arith, room _ _ c.loop-b.invariant.1 (omega arith))

pub loop-b-preserved : goal.loop-b-preserved
loop-b-preserved c =
    let l = c.loop-b in (
      omega arith,
      grown l.n _ l.b-index l.invariant.1 (c.type_inv.s l.b-index).fits,
      read_next _ l.n l.b-index _ (omega arith) l.invariant.2,
    )

pub returns : goal.returns
returns c = read_end _ _ c.loop-b.b-index _ c.loop-b-test.false c.loop-b.invariant.2

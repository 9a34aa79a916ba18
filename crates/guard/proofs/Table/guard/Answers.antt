-- `guard::Table::guard`: the bytes that are left, from the remainder so far, give what all of them give; a step through a right table is a step of the guard.
use mathlib.Core.Path.{sym}
use Prim.Native.Nat.{zero-le}
use native.Mathlib.Omega.{arith}
use lib.Dec.{lit<}
use Rattle.guard.proofs.ByTable.{table_next}
use Rattle.guard.proofs.Division.{guard_from_zero}
use Rattle.guard.proofs.Remainder.{guard_end}
use Rattle.guard.proofs.Table.guard.Goals as goal

pub loop-b-init : goal.loop-b-init
loop-b-init c = (zero-le, lit< tt, sym (guard_from_zero _))

pub loop-b-preserved : goal.loop-b-preserved
loop-b-preserved c =
    let l = c.loop-b in
    let s = c.args.«data».now in
    let next = table_next _ s l.r _ l.b-index _ c.args.self.now.right l.invariant.1 (omega arith) (c.type_inv.data l.b-index).fits c.step-r.ensures l.invariant.2 in
    (omega arith, next.0, next.1)

pub returns : goal.returns
returns c = guard_end _ _ c.loop-b.b-index _ c.loop-b-test.false c.loop-b.invariant.2

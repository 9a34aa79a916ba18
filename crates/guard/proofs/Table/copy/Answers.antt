-- `guard::Table::copy`: many bytes by the two functions that it calls; of few, what is copied and what is left make up the source, and the bytes that are left, from the remainder so far, give what all of them give.
use mathlib.Core.Path.{refl, sym}
use Prim.Native.Nat.{◌<◌, zero-le}
use native.Mathlib.Omega.{arith}
use lib.Dec.{lit<}
use lib.ListN.{length, length-set}
use Rattle.words.proofs.Parts.{copied_next, copied}
use Rattle.guard.proofs.ByTable.{table_next}
use Rattle.guard.proofs.Division.{guard_from_zero}
use Rattle.guard.proofs.Remainder.{guard_end}
use Rattle.guard.proofs.Table.copy.Goals as goal

pub returns-then-data-ge16 : goal.returns-then-data-ge16
returns-then-data-ge16 c = (c.guard.ensures, c.copy.ensures)

pub loop-i-init : goal.loop-i-init
loop-i-init c = (refl, zero-le, refl, lit< tt, sym (guard_from_zero _))

pub loop-i-preserved : goal.loop-i-preserved
loop-i-preserved c =
    let l = c.loop-i in
    let s = c.args.«data».now in
    let here : l.i < length s = omega arith in
    let next = table_next _ s l.r _ l.i _ c.args.self.now.right l.invariant.3 here (c.type_inv.data l.i).fits c.step-r.ensures l.invariant.4 in
    (simp length-set l.invariant.0, omega arith, copied_next l.d s l.i (omega arith) here l.invariant.2, next.0, next.1)

pub returns : goal.returns
returns c =
    let l = c.loop-i in
    (guard_end _ _ l.i _ c.loop-i-test.false l.invariant.4, copied l.d _ l.i (omega arith) c.loop-i-test.false l.invariant.2)

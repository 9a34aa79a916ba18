-- `guard::Rows::guard`: the bytes that are left, two by two, give from the remainder so far what all of them give.
use mathlib.Core.Path.{◌≡◌, sym, ap, ◌∙◌}
use mathlib.Core.List.{List}
use Prim.Native.Nat.{ℕ, ◌+◌, ◌-◌, ◌%◌, ◌≤◌, ◌<◌}
use native.Mathlib.Omega.{arith}
use lib.ListN.{length, take, take-append-drop}
use Rattle.guard.specs.Guard.{guard}
use Rattle.guard.proofs.ByRows.{rows_next}
use Rattle.guard.proofs.Laws.{guard_lt, guard_append}
use Rattle.guard.proofs.Remainder.{guard_end}
use Rattle.guard.proofs.Rows.guard.Invariants.{Going}
use Rattle.guard.proofs.Rows.guard.Goals as goal

two_left : (n i : ℕ) → (n - i) % 2 ≡ 0 → i < n → i + 2 ≤ n
two_left n i e h = omega arith

still_even : (n i : ℕ) → (n - i) % 2 ≡ 0 → i + 2 ≤ n → (n - (i + 2)) % 2 ≡ 0
still_even n i e h = omega arith

even_left : (n : ℕ) → (n - n % 2) % 2 ≡ 0
even_left n = omega arith

most : (n : ℕ) → n % 2 ≤ n
most n = omega arith

begins : (s : List ℕ) (r : ℕ) → r ≡ guard (take (length s % 2) s) → Going s r (length s % 2)
begins s r e =
    record {
      fewer = most (length s);
      even = even_left (length s);
      small = rw e (guard_lt _);
      same = rw e (sym (guard_append _ _) ∙ ap guard (take-append-drop (length s % 2) s));
    }

pub loop-i-init : goal.loop-i-init
loop-i-init c = begins _ _ c.odd_first-r.ensures

pub read2-requires : goal.read2-requires
read2-requires c = two_left _ _ c.loop-i.invariant.even c.loop-i-test.true

pub loop-i-preserved : goal.loop-i-preserved
loop-i-preserved c =
    let l = c.loop-i in
    let s = c.args.«data».now in
    let byte = c.type_inv.data in
    let here = two_left _ _ l.invariant.even c.loop-i-test.true in
    let next = rows_next _ c.args.self.now.right s l.r _ l.i _ _ l.invariant.small here (byte l.i).fits (byte (l.i + 1)).fits c.read2.ensures c.step-r.ensures l.invariant.same in
    record { fewer = omega arith; even = still_even _ _ l.invariant.even here; small = next.0; same = next.1 }

pub returns : goal.returns
returns c = guard_end _ _ c.loop-i.i _ c.loop-i-test.false c.loop-i.invariant.same

-- the last pair
pub returns-2 : goal.returns-2
returns-2 c =
    let l = c.loop-i in
    let s = c.args.«data».now in
    let byte = c.type_inv.data in
    let here = two_left _ _ l.invariant.even c.loop-i-test.true in
    let next = rows_next _ c.args.self.now.right s l.r _ l.i _ _ l.invariant.small here (byte l.i).fits (byte (l.i + 1)).fits c.read2.ensures c.step-r.ensures l.invariant.same in
    guard_end _ _ (l.i + 2) _ (omega arith) next.1

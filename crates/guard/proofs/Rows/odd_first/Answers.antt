-- `guard::Rows::odd_first`: the guard of no bytes is 0; that of the first byte alone is the one of two bytes, of which the first is 0.
use mathlib.Core.Path.{◌≡◌, refl}
use mathlib.Core.List.{List}
use Prim.Native.Nat.{ℕ, ◌%◌}
use native.Mathlib.Omega.{arith}
use lib.ListN.{length, take}
use Rattle.guard.specs.Guard.{guard, divide, take_off, terms_of}
use Rattle.guard.proofs.ByRows.{rows_first}
use Rattle.guard.proofs.Rows.odd_first.Goals as goal

even : (s : List ℕ) → length s % 2 ≡ 0 → 0 ≡ guard (take (length s % 2) s)
unfolding guard divide take_off terms_of
even s e = rw e refl

odd : (s : List ℕ) (n : ℕ) → (length s % 2 ≡ 0 → ⊥) → n ≡ guard (take 1 s) → n ≡ guard (take (length s % 2) s)
odd s n o e = let one : length s % 2 ≡ 1 = omega arith in rw one e

pub returns-then-data-eq0 : goal.returns-then-data-eq0
returns-then-data-eq0 c = even c.args.«data».now c.if-data-eq0.true

pub returns : goal.returns
returns c =
    let s = c.args.«data».now in
    odd s _ c.if-data-eq0.false
    (rows_first _ c.args.self.now.right s _ (omega (arith, c.if-data-eq0.false)) (c.type_inv.data 0).fits c.step.ensures)

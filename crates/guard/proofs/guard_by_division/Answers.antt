-- `guard::guard_by_division`: the bytes that are left, with the sixteen zeros behind them, give what all of them give.
use mathlib.Core.Path.{◌≡◌, refl, sym, ap, ◌∙◌}
use mathlib.Core.List.{List, ◌++◌, append_assoc}
use Prim.Native.Nat.{ℕ, ◌+◌, ◌≤◌, ◌<◌}
use native.Mathlib.Omega.{arith}
use lib.ListN.{length, get_or, drop, replicate, drop_of_length-le}
use Rattle.words.proofs.Parts.{drop_next}
use Rattle.guard.specs.Guard.{guard, divide, terms, terms_of}
use Rattle.guard.proofs.Division.{divide_append}
use Rattle.guard.proofs.guard_by_division.Goals as goal

-- a byte's terms brought down
next : (s : List ℕ) (r i g : ℕ) → i < length s → divide r (terms_of (drop i s) ++ replicate 16 0) ≡ g → divide (divide r (terms 8 (get_or s i 0))) (terms_of (drop (i + 1) s) ++ replicate 16 0) ≡ g
unfolding terms_of
next s r i g h e =
    sym (divide_append r (terms 8 (get_or s i 0)) (terms_of (drop (i + 1) s) ++ replicate 16 0))
    ∙ ap (divide r) (sym (append_assoc (terms 8 (get_or s i 0)) (terms_of (drop (i + 1) s)) (replicate 16 0)))
    ∙ (rw (drop_next s i 0 h) at e)

-- two zero bytes are the sixteen zeros
end : (s : List ℕ) (r i g : ℕ) → length s ≤ i → divide r (terms_of (drop i s) ++ replicate 16 0) ≡ g → divide (divide r (terms 8 0)) (terms 8 0) ≡ g
unfolding terms_of terms
end s r i g h e = sym (divide_append r (terms 8 0) (terms 8 0)) ∙ (rw (drop_of_length-le s h) at e)

pub loop-b-init : goal.loop-b-init
unfolding guard
loop-b-init c = (omega arith, refl)

pub loop-b-preserved : goal.loop-b-preserved
loop-b-preserved c =
    let l = c.loop-b in
    let s = c.args.«data».now in
    let here : l.b-index < length s = omega arith in
    (omega arith, rw c.divide_byte-r.ensures (next s l.r l.b-index _ here l.invariant.1))

pub returns : goal.returns
returns c =
    let l = c.loop-b in
    rw (c.divide_byte-2.ensures, c.divide_byte.ensures)
    (end _ l.r l.b-index _ c.loop-b-test.false l.invariant.1)

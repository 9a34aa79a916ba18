-- `parity::rebuild`: the parts before the lost one and those after it are whole parts, and its definition takes the same.
use mathlib.Core.Path.{◌≡◌, ◌∙◌}
use mathlib.Core.List.{List}
use Prim.Native.Nat.{ℕ, ◌+◌, ◌*◌, ◌-◌}
use native.Mathlib.Nat.{suc-mul}
use native.Mathlib.Numerals.{add-one}
use native.Mathlib.Omega.{arith}
use lib.ListN.{length, take, drop, length-drop}
use lib.Seq.{take_all}
use Rattle.parity.specs.Parity.{parity_of, rebuilt_of}
use Rattle.parity.specs.Stretch.{joined}
use Rattle.parity.proofs.Sums.{by_parts, part_before}
use Rattle.parity.proofs.rebuild.Goals as goal

restored : (long count lost : ℕ) (s new : List ℕ) → new ≡ joined long lost (take (lost * long) s) (count - lost) (take (length s - (lost * long + long)) (drop (lost * long + long) s))
    → new ≡ rebuilt_of long count lost s
unfolding joined rebuilt_of parity_of
restored long count lost s new e =
    let next : lost * long + long ≡ (lost + 1) * long = rw (add-one, suc-mul) in
    let all : take (length s - (lost * long + long)) (drop (lost * long + long) s) ≡ drop (lost * long + long) s = take_all (length s - (lost * long + long)) (drop (lost * long + long) s) (simp length-drop (omega arith)) in
    e ∙ rw (all, next, by_parts long lost _ (take (lost * long) s) s (λ j h. part_before long j lost s h))

pub returns : goal.returns
returns c = restored _ _ _ _ _ c.join.ensures

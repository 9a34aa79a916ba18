-- `guard::divide_byte`: the terms that are still to be brought down give what all of them give.
use mathlib.Core.Path.{◌≡◌}
use Prim.Native.Nat.{ℕ, zero, suc, ◌+◌, ◌*◌, ◌/◌, ◌%◌, ◌^◌, ◌≤◌, ◌<◌, ◌-◌}
use native.Mathlib.Omega.{arith}
use Rattle.guard.specs.Guard.{divide, take_off, terms}
use Rattle.guard.proofs.divide_byte.Goals as goal

next : (n k b r : ℕ) → 0 < k → divide n (terms k b) ≡ r → divide (take_off (n * 2 + b / 2 ^ (k - 1) % 2)) (terms (k - 1) b) ≡ r
unfolding divide terms
next n zero b r h e = absurd (omega arith)
next n (suc k) b r h e = let down : suc k - 1 ≡ k = omega arith in rw down e

end : (n k b r : ℕ) → k ≤ 0 → divide n (terms k b) ≡ r → n ≡ r
unfolding divide terms
end n zero b r h e = e
end n (suc k) b r h e = absurd (omega arith)

pub loop-k-preserved : goal.loop-k-preserved
loop-k-preserved c =
    let l = c.loop-k in
    (omega arith, rw c.bring_down-n.ensures (next l.n l.k _ _ c.loop-k-test.true l.invariant.1))

pub returns : goal.returns
returns c = end _ c.loop-k.k _ _ c.loop-k-test.false c.loop-k.invariant.1

-- `guard::bring_down`: the remainder that is left fits sixteen bits, whether the divisor went in or not.
use mathlib.Core.Path.{◌≡◌, sym}
use Prim.Native.Nat.{ℕ, ◌+◌, ◌*◌, ◌<◌, ◌≤◌}
use borrow.Author.Tests.{lt-ltb, le-ltb}
use lib.Bits.{bit_xor}
use Rattle.guard.specs.Guard.{take_off}
use Rattle.guard.proofs.Division.{take_off_lt}
use Rattle.guard.proofs.bring_down.Goals as goal

kept : (n : ℕ) → n < 0x10000 → take_off n ≡ n
unfolding take_off
kept n h = rw (lt-ltb n 0x10000 h)

taken : (n : ℕ) → 0x10000 ≤ n → take_off n ≡ bit_xor n 0x18BB7
unfolding take_off
taken n h = rw (le-ltb n 0x10000 h)

pub overflow_cast-result-else-n-lt65536 : goal.overflow_cast-result-else-n-lt65536
overflow_cast-result-else-n-lt65536 c = record { fits = rw (taken (c.args.r * 2 + c.args.t) c.if-n-lt65536.false) at (take_off_lt _ _ c.ranges.r.fits c.requires) }

pub returns-then-n-lt65536 : goal.returns-then-n-lt65536
returns-then-n-lt65536 c = sym (kept _ c.if-n-lt65536.true)

pub returns-else-n-lt65536 : goal.returns-else-n-lt65536
returns-else-n-lt65536 c = sym (taken _ c.if-n-lt65536.false)

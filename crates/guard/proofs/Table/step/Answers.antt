-- `guard::Table::step`: two bytes choose one of 256 entries.
use mathlib.Core.Path.{refl}
use Prim.Native.Nat.{ℕ, ◌/◌, ◌<◌}
use native.Mathlib.Omega.{arith}
use lib.Bits.{bit_xor, xor_lt}
use Rattle.guard.specs.Table.{table_step}
use Rattle.guard.proofs.Table.step.Goals as goal

byte : (r b : ℕ) → r < 65536 → b < 256 → bit_xor (r / 256) b < 256
byte r b h hb = xor_lt 8 (r / 256) b (omega arith) hb

pub overflow_cast-result : goal.overflow_cast-result
overflow_cast-result c = omega (arith, byte _ _ c.ranges.r.fits c.ranges.b.fits)

pub offset_bounds-self-v : goal.offset_bounds-self-v
offset_bounds-self-v c = omega (arith, byte _ _ c.ranges.r.fits c.ranges.b.fits)

pub bounds-self-v : goal.bounds-self-v
bounds-self-v c = byte _ _ c.ranges.r.fits c.ranges.b.fits

pub returns : goal.returns
unfolding table_step
returns c = refl

-- `interval::any_escapes`: the intervals that are left have an escape exactly when all of them have.
use mathlib.Core.Path.{◌≡◌, refl, ap, ◌∙◌}
use mathlib.Core.Bool.{Bool, true, false}
use mathlib.Core.List.{List}
use Prim.Native.Nat.{ℕ, ◌+◌, ◌-◌, ◌<◌, ◌≤◌}
use native.Mathlib.Nat.{zero-add}
use native.Mathlib.Omega.{arith}
use lib.ListN.{length}
use Rattle.words.proofs.Counted.{counted_from, counted_on}
use Rattle.words.proofs.Runs.{peel_rest}
use Rattle.field.proofs.Laws.{interval_within, field_behind}
use Rattle.field.specs.Field.{field_of}
use Rattle.interval.specs.declared.Escape.{Escape}
use Rattle.interval.specs.Interval.{escapes, any_escapes}
use Rattle.interval.proofs.IntervalLaws.{any_next, any_stop, any_end}
use Rattle.interval.proofs.any_escapes.Invariants.{Looking}
use Rattle.interval.proofs.any_escapes.Goals as goal

module _ {e : Escape} {size count : ℕ} {s : List ℕ} {left i : ℕ} (g : Looking e size count s left i) (h : 0 < left) where
  within : i + size + 8 ≤ length s
  within = interval_within left i size (length s) h g.from

  module _ {b : Bool} (m : b ≡ escapes e (field_of (i + size) s)) where
    turn : b ≡ false → Looking e size count s (left - 1) (i + (size + 8))
    turn o =
        record {
          from = peel_rest left i (size + 8) (length s) h g.from;
          same = any_next e size left i s b _ h (m ∙ ap (escapes e) (field_behind i size s)) o g.same;
        }

    stop : b ≡ true → true ≡ any_escapes e size count s
    stop o = any_stop e size left i s b _ h (m ∙ ap (escapes e) (field_behind i size s)) o g.same

pub loop-k-init : goal.loop-k-init
loop-k-init c =
    counted_from (Looking c.args.e c.args.size c.args.count c.args.s.now) c.args.count _ (record { from = zero-add _ ∙ c.requires; same = refl })

pub overflow_mul-i : goal.overflow_mul-i
overflow_mul-i c = omega (arith, within c.loop-k.invariant (omega arith), c.well_formed)

pub returns-then-escapes : goal.returns-then-escapes
returns-then-escapes c =
    stop c.loop-k.invariant (omega arith) (c.escapes.ensures ∙ ap (escapes c.args.e) c.field_of.ensures) c.if-escapes.true

pub loop-k-preserved : goal.loop-k-preserved
loop-k-preserved c =
    counted_on (Looking c.args.e c.args.size c.args.count c.args.s.now) c.args.count _ c.loop-k.k c.loop-k-test.true
    (turn c.loop-k.invariant (omega arith) (c.escapes.ensures ∙ ap (escapes c.args.e) c.field_of.ensures) c.if-escapes.false)

pub returns : goal.returns
returns c = any_end _ _ (c.args.count - c.loop-k.k) _ _ (omega arith) c.loop-k.invariant.same

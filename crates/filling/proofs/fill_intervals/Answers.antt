-- `filling::fill_intervals`: the fresh intervals that stand, and those that are left, make up all of them.
use mathlib.Core.Path.{◌≡◌, refl, ap, ◌∙◌}
use mathlib.Core.List.{List, []}
use Prim.Native.Nat.{ℕ, ◌+◌, ◌*◌, ◌-◌, ◌<◌, ◌≤◌}
use native.Mathlib.Nat.{zero-add, zero-mul, sub-zero}
use native.Mathlib.Omega.{arith}
use borrow.Rule.Slice.PartMut.{put_mid}
use lib.ListN.{length, length-append, length-replicate}
use Rattle.words.specs.Parts.{put}
use Rattle.words.proofs.Parts.{put_length, put_back}
use Rattle.words.proofs.Runs.{peel_within, peel_rest, peel_end, fill_next, fill_end}
use Rattle.filling.specs.Fresh.{fresh_interval, fresh_intervals}
use Rattle.filling.proofs.fill_intervals.Invariants.{piece, Going}
use Rattle.filling.proofs.fill_intervals.Goals as goal

-- interval i begins behind the i intervals before it
next : (i size : ℕ) → i * (size + 8) + (size + 8) ≡ (i + 1) * (size + 8)
next i size = omega arith

within : {size count left at : ℕ} {d₀ d : List ℕ} → Going size count d₀ d left at → 0 < left → at + (size + 8) ≤ length d
within {size} {count} {left} {at} g h = rw g.kept (peel_within left at (size + 8) _ h g.to)

turn : {size count left at : ℕ} {d₀ d new part : List ℕ} → Going size count d₀ d left at → 0 < left → part ≡ fresh_interval size
    → new ≡ put_mid at (at + (size + 8) - at) d part → Going size count d₀ new (left - 1) (at + (size + 8))
unfolding fresh_interval
turn {size} {count} {left} {at} {d₀} {d} {new} {part} g h e w =
    let long : length part ≡ size + 8 = rw (e, length-append, length-replicate, length-replicate) in
    let span : length part ≡ at + (size + 8) - at = rw long (omega arith) in
    let back : new ≡ put at part d = w ∙ put_back at (at + (size + 8)) d part (omega arith) span in
    let room : at + (size + 8) ≤ length d = within g h in
    record {
      kept = ap length back ∙ put_length at part d (rw long room) ∙ g.kept;
      to = peel_rest left at (size + 8) _ h g.to;
      made = rw back (fill_next (piece size) (λ t. t) 0 left at 0 (size + 8) 0 [] d part _ h long room e g.made);
    }

pub loop-i-init : goal.loop-i-init
unfolding fresh_intervals
loop-i-init c = record { kept = refl; to = rw (zero-mul, sub-zero, zero-add) c.requires; made = rw (zero-mul, sub-zero) refl }

pub loop-i-preserved : goal.loop-i-preserved
loop-i-preserved c =
    let l = c.loop-i in
    let less : l.i < c.args.count = c.loop-i-test.true in
    let fewer : c.args.count - l.i - 1 ≡ c.args.count - (l.i + 1) = omega arith in
    rw (← fewer, ← next l.i c.args.size) (turn l.invariant (omega arith) c.fill_interval.ensures refl)

pub returns : goal.returns
returns c =
    let l = c.loop-i in
    let none : c.args.count - l.i ≤ 0 = omega arith in
    fill_end (piece _) _ 0 _ _ 0 0 [] _ _ none (rw l.invariant.kept (peel_end _ _ (_ + 8) _ none l.invariant.to)) l.invariant.made

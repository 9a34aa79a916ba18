-- `guards::fill_guards`: the guards that stand, and those of the intervals that are left, make up all of them.
use mathlib.Core.Path.{◌≡◌, refl, ap, ◌∙◌}
use mathlib.Core.List.{List}
use Prim.Native.Nat.{ℕ, ◌+◌, ◌*◌, ◌≤◌, ◌<◌, ◌-◌}
use native.Mathlib.Nat.{zero-add, zero-mul, sub-zero}
use native.Mathlib.Omega.{arith}
use lib.ListN.{length, take, drop}
use Rattle.words.specs.BigEndian.{bytes}
use Rattle.words.specs.Parts.{put}
use Rattle.words.proofs.BigEndian.{bytes_length}
use Rattle.words.proofs.Parts.{put_length}
use Rattle.words.proofs.Runs.{peel_within, peel_rest, peel_end, fill_next, fill_end}
use Rattle.guard.specs.Guard.{guard}
use Rattle.guards.specs.Guards.{guard_of_first, guards_of}
use Rattle.guards.proofs.fill_guards.Invariants.{Going}
use Rattle.guards.proofs.fill_guards.Goals as goal

-- interval i and its guard stand behind i of them
next : (i n : ℕ) → i * n + n ≡ (i + 1) * n
next i n = omega arith

room : {s out₀ out : List ℕ} {size count left i at : ℕ} → Going s size count out₀ out left i at → 0 < left → at + 2 ≤ length out₀
room {at = at} g h = peel_within _ at 2 _ h g.to

turn : {s out₀ out new : List ℕ} {size count left i at r : ℕ} → Going s size count out₀ out left i at → 0 < left
    → r ≡ guard (take (i + size - i) (drop i s)) → new ≡ put at (bytes 2 r) out → Going s size count out₀ new (left - 1) (i + size) (at + 2)
unfolding guard_of_first
turn {s} {out₀} {out} {new} {size} {count} {left} {i} {at} {r} g h e w =
    let two : length (bytes 2 r) ≡ 2 = bytes_length 2 r in
    let fits : at + 2 ≤ length out = rw g.kept (room g h) in
    let same : i + size - i ≡ size = omega arith in
    let piece : bytes 2 r ≡ bytes 2 (guard (take size (drop i s))) = ap (bytes 2) (rw same at e) in
    record {
      kept = ap length w ∙ put_length at (bytes 2 r) out (rw two fits) ∙ g.kept;
      from = peel_rest left i size _ h g.from;
      to = peel_rest left at 2 _ h g.to;
      made = rw w (fill_next (guard_of_first size) (λ t. t) size left at i 2 0 s out (bytes 2 r) _ h two fits piece g.made);
    }

pub loop-i-init : goal.loop-i-init
unfolding guards_of
loop-i-init c =
    record {
      kept = refl;
      from = rw (zero-mul, sub-zero, zero-add) c.requires.size_value;
      to = rw (zero-mul, sub-zero, zero-add) c.requires.count_value;
      made = rw (zero-mul, sub-zero) refl;
    }

pub loop-i-preserved : goal.loop-i-preserved
loop-i-preserved c =
    let l = c.loop-i in
    let fewer : c.args.count - l.i - 1 ≡ c.args.count - (l.i + 1) = omega arith in
    rw (← fewer, ← next l.i c.args.size, ← next l.i 2) (turn l.invariant (omega arith) c.guard-g.ensures c.write2.ensures)

pub returns : goal.returns
returns c =
    let l = c.loop-i in
    let none : c.args.count - l.i ≤ 0 = omega arith in
    fill_end _ _ _ _ _ (l.i * c.args.size) _ c.args.«data».now _ _ none (rw l.invariant.kept (peel_end _ _ 2 _ none l.invariant.to)) l.invariant.made

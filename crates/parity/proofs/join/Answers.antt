-- `parity::join`: what is made is as much of the whole, a stretch more with each turn.
use mathlib.Core.Path.{◌≡◌, refl, sym, ap, ap₂, ◌∙◌}
use mathlib.Core.List.{List, ◌++◌, append_assoc}
use Prim.Native.Nat.{ℕ, ◌+◌, ◌≤◌, ◌<◌, ◌-◌}
use native.Mathlib.Omega.{arith}
use lib.ListN.{length, take, drop, length-append}
use lib.Seq.{take-add, take_at, length-take-le}
use borrow.Rule.Slice.PartMut.{put_mid, mid_of, mid_len, same_len_mid}
use Rattle.parity.proofs.Stretches.{joined_length}
use Rattle.parity.proofs.join.Invariants.{Going}
use borrow.Author.Rules.{rules}
use Rattle.parity.proofs.join.Goals as goal

turn : {whole out₀ out new : List ℕ} {at end : ℕ} → Going whole out₀ out at → at < end → end ≤ length out₀ → new ≡ take (length (mid_of at (end - at) out)) (drop at whole)
    → Going whole out₀ (put_mid at (end - at) out new) end
turn {whole} {out₀} {out} {new} {at} {end} g h l e =
    let fits : end ≤ length out = rw g.kept l in
    let w : length (mid_of at (end - at) out) ≡ end - at = mid_len at end out fits in
    let add : at + (end - at) ≡ end = omega arith in
    let before : length (take at out) ≡ at = length-take-le at out (omega arith) in
    let piece : new ≡ take (end - at) (drop at whole) = rw w at e in
    let upto : take at out ++ new ≡ take end whole = ap₂ (λ (x y : List ℕ). x ++ y) g.made piece ∙ sym (take-add at (end - at) whole) ∙ ap (λ (k : ℕ). take k whole) add in
    let long : length (take end whole) ≡ end = length-take-le end whole (rw g.sized l) in
    let seam : length (take at out ++ new) ≡ end = ap length upto ∙ long in
    let size : length new ≡ end - at = omega (arith, rw (length-append, before) at seam) in
    record {
      kept = same_len_mid at (end - at) out new (size ∙ sym w) ∙ g.kept;
      sized = g.sized;
      within = l;
      made = ap (take end) (sym (append_assoc (take at out) new _)) ∙ take_at (take at out ++ new) _ end seam ∙ upto;
    }

pub loop-at-init : goal.loop-at-init
loop-at-init c = record { kept = refl; sized = joined_length _ _ _ _ _ (search rules) (search rules); within = omega arith; made = refl }

pub loop-at-preserved : goal.loop-at-preserved
loop-at-preserved c =
    let next : c.loop-at.at + 4096 ≡ c.loop-at.at + c.min.result = omega arith in
    rw next (turn c.loop-at.invariant (omega arith) (omega arith) c.join_stretch.ensures)

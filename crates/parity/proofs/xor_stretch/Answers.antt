-- `parity::xor_stretch`: what stands, with the parts that are left, gives what all parts give; two parts are two turns of one.
use mathlib.Core.Path.{◌≡◌, refl, sym, ap, ◌∙◌}
use mathlib.Core.List.{List}
use Prim.Native.Nat.{ℕ, zero, suc, ◌+◌, ◌*◌, ◌≤◌, ◌<◌, ◌-◌}
use native.Mathlib.Omega.{arith}
use lib.ListN.{length, take, drop, length-take, length-drop}
use lib.Seq.{drop-drop}
use Rattle.words.specs.Xor.{xors}
use Rattle.words.proofs.Xor.{xors_length}
use Rattle.words.proofs.Runs.{peel_within, peel_rest}
use Rattle.parity.specs.Stretch.{xor_stretch}
use Rattle.parity.proofs.xor_stretch.Invariants.{Going}
use Rattle.parity.proofs.xor_stretch.Goals as goal

within : {piece₀ parts piece : List ℕ} {at long count left i : ℕ} → Going piece₀ parts at long count piece left i → 0 < left → i + long ≤ length parts
within {long = long} {i = i} g h = peel_within _ i long _ h g.from

next_made : (long n left i at : ℕ) (piece parts whole : List ℕ) → 0 < left → xor_stretch long n left piece (drop (i + at) parts) ≡ whole
    → xor_stretch long n (left - 1) (xors piece (take n (drop (i + at) parts))) (drop (i + long + at) parts) ≡ whole
unfolding xor_stretch
next_made long n zero i at piece parts whole h e = absurd (omega arith)
next_made long n (suc left) i at piece parts whole h e =
    let down : suc left - 1 ≡ left = omega arith in
    let on : i + long + at ≡ i + at + long = omega arith in
    rw (down, on, ← drop-drop long (i + at) parts) e

end_made : (long n left : ℕ) (piece s whole : List ℕ) → left ≤ 0 → xor_stretch long n left piece s ≡ whole → piece ≡ whole
unfolding xor_stretch
end_made long n zero piece s whole h e = e
end_made long n (suc left) piece s whole h e = absurd (omega arith)

turn : {piece₀ parts piece new : List ℕ} {at long count left i : ℕ} → Going piece₀ parts at long count piece left i → 0 < left
    → new ≡ xors piece (take (length piece₀) (drop (i + at) parts)) → Going piece₀ parts at long count new (left - 1) (i + long)
turn {piece₀} {parts} {piece} {new} {at} {long} {count} {left} {i} g h w =
    let fits : i + long ≤ length parts = within g h in
    let part : length (take (length piece₀) (drop (i + at) parts)) ≡ length piece₀ = simp (length-take, length-drop) (omega (arith, g.near)) in
    record {
      kept = ap length w ∙ xors_length piece _ (g.kept ∙ sym part) ∙ g.kept;
      near = g.near;
      from = peel_rest left i long _ h g.from;
      made = rw w (next_made long (length piece₀) left i at piece parts _ h g.made);
    }

turn_two : {piece₀ parts piece new : List ℕ} {at long count left i : ℕ} → Going piece₀ parts at long count piece left i → 1 < left
    → new
    ≡ xors (xors piece (take (i + at + length piece - (i + at)) (drop (i + at) parts))) (take (i + at + length piece + long - (i + at + long)) (drop (i + at + long) parts))
    → Going piece₀ parts at long count new (left - 2) (i + long + long)
turn_two {piece₀} {parts} {piece} {new} {at} {long} {count} {left} {i} g h w =
    let one : i + at + length piece - (i + at) ≡ length piece₀ = omega (arith, g.kept) in
    let two : i + at + length piece + long - (i + at + long) ≡ length piece₀ = omega (arith, g.kept) in
    let over : i + at + long ≡ i + long + at = omega arith in
    let down : left - 2 ≡ left - 1 - 1 = omega arith in
    rw down (turn (turn g (omega arith) refl) (omega arith) (rw (one, two, over) at w))

last : {piece₀ parts piece new : List ℕ} {at long count left i : ℕ} → Going piece₀ parts at long count piece left i → left ≤ 1 → (left ≡ 0 → ⊥)
    → new ≡ xors piece (take (i + at + length piece - (i + at)) (drop (i + at) parts)) → new ≡ xor_stretch long (length piece₀) count piece₀ (drop at parts)
last {piece₀} {piece = piece} {at = at} {left = left} {i = i} g h n w =
    let one : i + at + length piece - (i + at) ≡ length piece₀ = omega (arith, g.kept) in
    end_made _ _ (left - 1) _ _ _ (omega arith) (turn g (omega arith) (rw one at w)).made

onward : {piece₀ parts piece : List ℕ} {at long count left i left' i' : ℕ} → left' ≡ left → i' ≡ i → Going piece₀ parts at long count piece left i
    → Going piece₀ parts at long count piece left' i'
onward e f g = rw (e, f) g

pub loop-pair-preserved : goal.loop-pair-preserved
loop-pair-preserved c =
    onward (omega arith) (omega arith) (turn_two c.loop-pair.invariant (omega arith) c.xor_two.ensures)

pub returns-then-count-eq1 : goal.returns-then-count-eq1
returns-then-count-eq1 c =
    let l = c.loop-pair in
    let before : c.args.count - 1 ≡ 2 * l.pair = omega arith in
    last (onward refl (ap (λ n. n * c.args.long) before) l.invariant) (omega arith) (λ e. omega arith) c.xor_into.ensures

pub returns-else-count-eq1 : goal.returns-else-count-eq1
returns-else-count-eq1 c = end_made _ _ _ _ _ _ (omega arith) c.loop-pair.invariant.made

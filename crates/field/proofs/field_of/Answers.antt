-- `field::field_of`: eight bytes are there, so there is a first chunk, and it is they.
use mathlib.Core.Path.{◌≡◌, refl, ap, ◌∙◌}
use mathlib.Core.List.{List, []}
use Prim.Native.Nat.{ℕ, zero, suc, ◌-◌, ◌/◌, ◌≤◌}
use native.Mathlib.Omega.{arith}
use lib.ListN.{length, take, drop, length-drop, length-take}
use lib.Seq.{take_all}
use Rattle.std.proofs.Common.{slice_index_or}
use Rattle.std.specs.Simd.{first_chunks}
use Rattle.field.specs.Field.{field_of}
use Rattle.field.proofs.field_of.Goals as goal

behind : (at : ℕ) (s : List ℕ) → take (length s - at) (drop at s) ≡ drop at s
behind at s = take_all (length s - at) (drop at s) (omega (arith, length-drop at s))

some : (n : ℕ) → 8 ≤ n → 1 ≤ n / 8
some n h = omega arith

first : (k : ℕ) (s : List ℕ) → 1 ≤ k → slice_index_or (first_chunks 8 k s) 0 [] ≡ take 8 s
first zero s h = absurd (omega arith)
first (suc k) s h = refl

pub returns : goal.returns
unfolding field_of
returns c =
    let at = c.args.at in
    let s = c.args.s.now in
    let long : 8 ≤ length (take (length s - at) (drop at s)) = simp (length-take, length-drop) (omega (arith, c.requires)) in
    rw c.as_chunks.ensures.front (first _ _ (some _ long)) ∙ ap (take 8) (behind at s)

-- A stretch of the exclusive or of parts is the exclusive or of the same stretch of each, so that a loop makes it stretch by stretch.
-- Assumes nothing.
use mathlib.Core.Path.{◌≡◌, refl, sym, ap, ap₂, ◌∙◌}
use mathlib.Core.List.{List, ◌∷◌}
use Prim.Native.Nat.{ℕ, zero, suc, ◌+◌, ◌*◌, ◌≤◌}
use native.Mathlib.Omega.{arith}
use lib.ListN.{length, take, drop, replicate}
use Rattle.words.specs.Xor.{xors}
use Rattle.words.proofs.Xor.{xors_take, xors_drop}
use Rattle.parity.specs.Parity.{xor_parts, parity_of}
use Rattle.parity.specs.Stretch.{xor_stretch, joined}
use Rattle.parity.proofs.Sums.{xor_parts_length, parity_of_length, drop_swap, part_of_take}

part_of_zeros : (at n long : ℕ) → at + n ≤ long → take n (drop at (replicate {A = ℕ} long 0)) ≡ replicate n 0
part_of_zeros zero zero long h = refl
part_of_zeros zero (suc n) zero h = absurd (omega arith)
part_of_zeros zero (suc n) (suc long) h = ap (λ (l : List ℕ). 0 ∷ l) (part_of_zeros zero n long (omega arith))
part_of_zeros (suc at) n zero h = absurd (omega arith)
part_of_zeros (suc at) n (suc long) h = part_of_zeros at n long (omega arith)

-- ---- a stretch of the whole
stretch_of_xor_parts : (at n long k : ℕ) (out s : List ℕ) → at + n ≤ long → take n (drop at (xor_parts long k out s)) ≡ xor_stretch long n k (take n (drop at out)) (drop at s)
unfolding xor_parts xor_stretch
stretch_of_xor_parts at n long zero out s h = refl
stretch_of_xor_parts at n long (suc k) out s h =
    stretch_of_xor_parts at n long k (xors out (take long s)) (drop long s) h
    ∙ ap₂ (xor_stretch long n k)
    (ap (take n) (xors_drop at out (take long s)) ∙ xors_take n (drop at out) (drop at (take long s)) ∙ ap (xors (take n (drop at out))) (part_of_take at n long s h))
    (drop_swap at long s)

pub stretch_of_joined : (at w long m n : ℕ) (before after cleared half whole : List ℕ) → at + w ≤ long → length cleared ≡ w → length half ≡ w
    → cleared ≡ replicate w 0 → half ≡ xor_stretch long (length cleared) m cleared (drop at before) → whole ≡ xor_stretch long (length half) n half (drop at after)
    → whole ≡ take w (drop at (joined long m before n after))
unfolding joined parity_of
stretch_of_joined at w long m n before after cleared half whole h lc lh ec eh ew =
    ew ∙ rw (lh, eh, lc, ec)
    (sym (stretch_of_xor_parts at w long n (xor_parts long m (replicate long 0) before) after h
    ∙ ap (λ (l : List ℕ). xor_stretch long w n l (drop at after))
    (stretch_of_xor_parts at w long m (replicate long 0) before h ∙ ap (λ (l : List ℕ). xor_stretch long w m l (drop at before)) (part_of_zeros at w long h))))

pub joined_length : (long m n : ℕ) (before after : List ℕ) → m * long ≡ length before → n * long ≡ length after → length (joined long m before n after) ≡ long
unfolding joined
joined_length long m n before after hb ha = xor_parts_length long n (parity_of long m before) after (parity_of_length long m before (omega arith)) (omega arith)

-- `parity::xor_two`: what is done, and the exclusive or of what is left, make up the whole.
use mathlib.Core.Path.{◌≡◌, refl}
use mathlib.Core.List.{List, ◌++◌}
use Prim.Native.Nat.{ℕ, ◌+◌, ◌≤◌, ◌<◌}
use native.Mathlib.Omega.{arith}
use lib.Bits.{bit_xor}
use lib.ListN.{length, get_or, take, drop, set, length-set, drop_of_length-le}
use lib.Seq.{drop-set-lt}
use Rattle.words.specs.Xor.{xors}
use Rattle.words.proofs.Parts.{store_next, store_end, drop_next}
use Rattle.parity.proofs.xor_two.Goals as goal

two_next : (d a b whole : List ℕ) (i v : ℕ) → i < length d → i < length a → i < length b → v ≡ bit_xor (bit_xor (get_or d i 0) (get_or a i 0)) (get_or b i 0)
    → take i d ++ xors (xors (drop i d) (drop i a)) (drop i b) ≡ whole
    → take (i + 1) (set d i v) ++ xors (xors (drop (i + 1) (set d i v)) (drop (i + 1) a)) (drop (i + 1) b) ≡ whole
unfolding xors
two_next d a b whole i v hd ha hb w e =
    rw (drop-set-lt (i + 1) d i v (omega arith))
    (store_next d _ whole i v hd (rw w (rw (drop_next d i 0 hd, drop_next a i 0 ha, drop_next b i 0 hb) at e)))

two_end : (d a b whole : List ℕ) (i : ℕ) → length d ≤ i → take i d ++ xors (xors (drop i d) (drop i a)) (drop i b) ≡ whole → d ≡ whole
unfolding xors
two_end d a b whole i h e = store_end d whole i h (rw (drop_of_length-le d h) at e)

pub loop-i-preserved : goal.loop-i-preserved
loop-i-preserved c =
    let l = c.loop-i in
    (simp length-set l.invariant.0, (omega arith, two_next l.d _ _ _ l.i _ (omega arith) (omega arith) (omega arith) refl l.invariant.1.1))

pub returns : goal.returns
returns c = two_end _ _ _ _ c.loop-i.i (omega arith) c.loop-i.invariant.1.1

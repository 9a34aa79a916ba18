-- `words::xor_into`: what is done, and the exclusive or of what is left, make up the whole.
use mathlib.Core.Path.{◌≡◌}
use mathlib.Core.List.{List, ◌++◌}
use Prim.Native.Nat.{ℕ, ◌+◌, ◌≤◌, ◌<◌}
use native.Mathlib.Omega.{arith}
use lib.Bits.{bit_xor}
use lib.ListN.{length, get_or, take, drop, set, length-set, drop_of_length-le}
use lib.Seq.{drop-set-lt}
use Rattle.words.specs.Xor.{xors}
use Rattle.words.proofs.Parts.{store_next, store_end, drop_next}
use Rattle.words.proofs.xor_into.Goals as goal

xor_next : (d s whole : List ℕ) (i : ℕ) → i < length d → i < length s → take i d ++ xors (drop i d) (drop i s) ≡ whole
    → take (i + 1) (set d i (bit_xor (get_or d i 0) (get_or s i 0))) ++ xors (drop (i + 1) (set d i (bit_xor (get_or d i 0) (get_or s i 0)))) (drop (i + 1) s) ≡ whole
unfolding xors
xor_next d s whole i hd hs e =
    rw (drop-set-lt (i + 1) d i (bit_xor (get_or d i 0) (get_or s i 0)) (omega arith))
    (store_next d _ whole i (bit_xor (get_or d i 0) (get_or s i 0)) hd (rw (drop_next d i 0 hd, drop_next s i 0 hs) at e))

xor_end : (d s whole : List ℕ) (i : ℕ) → length d ≤ i → take i d ++ xors (drop i d) (drop i s) ≡ whole → d ≡ whole
unfolding xors
xor_end d s whole i h e = store_end d whole i h (rw (drop_of_length-le d h) at e)

pub loop-i-preserved : goal.loop-i-preserved
loop-i-preserved c =
    let l = c.loop-i in
    (simp length-set l.invariant.0, omega arith, xor_next l.d _ _ l.i (omega arith) (omega arith) l.invariant.2)

pub returns : goal.returns
returns c = xor_end _ _ _ c.loop-i.i (omega arith) c.loop-i.invariant.2

-- `filling::fill_interval`: zeros throughout, and then FFh in the last eight places.
use mathlib.Core.Path.{◌≡◌, sym, ap, ap₂, ◌∙◌}
use mathlib.Core.List.{List, [], ◌++◌, append-nil}
use Prim.Native.Nat.{ℕ, ◌+◌, ◌-◌}
use native.Mathlib.Omega.{arith}
use borrow.Rule.Slice.PartMut.{mid_of, put_mid}
use lib.ListN.{length, take, drop, replicate, length-replicate, length-take, length-drop, replicate-append-replicate, drop_of_length-le}
use lib.Seq.{take_at}
use Rattle.filling.specs.Fresh.{fresh_interval}
use Rattle.filling.proofs.fill_interval.Goals as goal

zeros : (a b : ℕ) → take {A = ℕ} a (replicate (a + b) 0) ≡ replicate a 0
zeros a b =
    ap (take a) (sym (replicate-append-replicate a b 0)) ∙ take_at (replicate a 0) (replicate b 0) a (length-replicate a 0)

made : (size : ℕ) (d mid end : List ℕ) → size + 8 ≡ length d → mid ≡ replicate (length d) 0
    → end ≡ replicate (length (mid_of size (length mid - size) mid)) 0xFF → put_mid size (length mid - size) mid end ≡ fresh_interval size
unfolding fresh_interval
made size d mid end h m e =
    let long : length mid ≡ size + 8 = ap length m ∙ length-replicate (length d) 0 ∙ sym h in
    let eight : length (mid_of size (length mid - size) mid) ≡ 8 = simp (length-take, length-drop) (omega arith) in
    let none : drop (length mid - size) (drop size mid) ≡ [] = drop_of_length-le (drop size mid) {i = length mid - size} (simp length-drop (omega arith)) in
    let front : take size mid ≡ replicate size 0 = ap (take size) (m ∙ ap (λ (n : ℕ). replicate n 0) (sym h)) ∙ zeros size 8 in
    ap₂ (λ (x y : List ℕ). x ++ y) front
    (ap₂ (λ (x y : List ℕ). x ++ y) (e ∙ ap (λ (n : ℕ). replicate n 0xFF) eight) none ∙ append-nil (replicate 8 0xFF))

pub returns : goal.returns
returns c =
    made c.args.size c.args.d.now _ _ c.requires c.fill_with.ensures c.fill_with-2.ensures

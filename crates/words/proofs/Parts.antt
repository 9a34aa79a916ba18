-- Laws on parts of lists: what a loop that goes through a list from the front needs, and what was put at a place.
-- Assumes nothing.
use mathlib.Core.Path.{◌≡◌, refl, sym, ap, ◌∙◌}
use mathlib.Core.List.{List, [], ◌∷◌, ◌++◌, append-nil, append_assoc}
use Prim.Native.Nat.{ℕ, zero, suc, ◌+◌, ◌-◌, ◌*◌, ◌<◌, ◌≤◌}
use native.Mathlib.Nat.{add_comm, add-sub_cancel_left, suc-mul, suc-add, zero-add}
use native.Mathlib.Numerals.{add-one}
use native.Mathlib.Omega.{arith}
use lib.Dec.{lit<}
use lib.ListN.{length, get_or, take, drop, set, length-append, length-take, length-drop, drop_of_length-le}
use lib.Seq.{drop-cons, drop-drop, take-suc-set, take_all, take-nil, get_or-drop}
use borrow.Rule.Slice.PartMut.{put_mid, Post-is}
use Rattle.words.specs.Parts.{put, Bytes}

pub drop_next : {A : Type 0} (s : List A) (i : ℕ) (d : A) → i < length s → drop i s ≡ get_or s i d ∷ drop (i + 1) s
drop_next s i d h = rw (add-one, drop-cons s i d)

-- an element stored at the seam of what is done and what is left
pub store_next : (d rest whole : List ℕ) (i v : ℕ) → i < length d → take i d ++ (v ∷ rest) ≡ whole → take (i + 1) (set d i v) ++ rest ≡ whole
store_next d rest whole i v h e = rw (add-one, take-suc-set d i v) (append_assoc (take i d) (v ∷ []) rest ∙ e)

pub store_end : (d whole : List ℕ) (i : ℕ) → length d ≤ i → take i d ++ [] ≡ whole → d ≡ whole
store_end d whole i h e = sym (take_all i d h) ∙ sym (append-nil (take i d)) ∙ e

-- a list copied from the front: what is copied and what is left make up the source
pub copied_next : (d s : List ℕ) (i : ℕ) → i < length d → i < length s → take i d ++ drop i s ≡ s → take (i + 1) (set d i (get_or s i 0)) ++ drop (i + 1) s ≡ s
copied_next d s i h k e = store_next d _ s i _ h (rw (drop_next s i 0 k) at e)

pub copied : (d s : List ℕ) (i : ℕ) → length s ≡ length d → length s ≤ i → take i d ++ drop i s ≡ s → d ≡ s
copied d s i e h t = store_end d s i (omega arith) (rw (drop_of_length-le s h) at t)

-- the part of n elements from i on, as code cuts it
pub part_at : (i n : ℕ) (s : List ℕ) → take (i + n - i) (drop i s) ≡ take n (drop i s)
part_at i n s = rw (add-sub_cancel_left i n)

-- one piece of P elements, and k behind it
pub one_more : (k P : ℕ) → suc k * P ≡ P + k * P
one_more k P = suc-mul k P ∙ add_comm (k * P) P

pub drop_more : (P k : ℕ) (s : List ℕ) → drop (k * P) (drop P s) ≡ drop (suc k * P) s
drop_more P k s = drop-drop (k * P) P s ∙ ap (λ (n : ℕ). drop n s) (sym (one_more k P))

pub drop_take : (n m : ℕ) (s : List ℕ) → drop n (take (n + m) s) ≡ take m (drop n s)
drop_take zero m s = rw zero-add refl
drop_take (suc n) m [] = simp take-nil
drop_take (suc n) m (x ∷ s) = rw suc-add (drop_take n m s)

-- ---- parts of bytes are bytes, and so are bytes end to end
pub take_bytes : (n : ℕ) (s : List ℕ) → Bytes s → Bytes (take n s)
take_bytes zero s p i = lit< tt
take_bytes (suc n) [] p i = lit< tt
take_bytes (suc n) (x ∷ s) p zero = p 0
take_bytes (suc n) (x ∷ s) p (suc i) = take_bytes n s (λ j. p (suc j)) i

pub drop_bytes : (n : ℕ) (s : List ℕ) → Bytes s → Bytes (drop n s)
drop_bytes n s p i = rw get_or-drop (p (n + i))

pub part_bytes : (at n : ℕ) (s : List ℕ) → Bytes s → Bytes (take n (drop at s))
part_bytes at n s p = take_bytes n (drop at s) (drop_bytes at s p)

pub append_bytes : (a b : List ℕ) → Bytes a → Bytes b → Bytes (a ++ b)
append_bytes [] b p q i = q i
append_bytes (x ∷ a) b p q zero = p 0
append_bytes (x ∷ a) b p q (suc i) = append_bytes a b (λ j. p (suc j)) q i

-- ---- what was put at a place
pub put_length : (at : ℕ) (new old : List ℕ) → at + length new ≤ length old → length (put at new old) ≡ length old
unfolding put
put_length at new old h = simp (length-append, length-take, length-drop) (omega arith)

-- a part that was lent comes back as what was put there
pub put_back : (at end : ℕ) (old new : List ℕ) → at ≤ end → length new ≡ end - at → put_mid at (end - at) old new ≡ put at new old
unfolding put
put_back at end old new h e =
    let where_ends : at + length new ≡ end = omega arith in
    rw (where_ends, Post-is at end old)

-- The laws of the exclusive or of parts: its length, its order, its parts.
-- Assumes nothing.
use mathlib.Core.Path.{◌≡◌, refl, sym, ap, ap₂, ◌∙◌}
use mathlib.Core.Bool.{Bool, true, false, not}
use mathlib.Core.List.{List, [], ◌∷◌, ◌++◌, append_assoc}
use Prim.Native.Nat.{ℕ, zero, suc, ◌+◌, ◌*◌, ◌≤◌, ◌<◌, ◌-◌}
use native.Mathlib.Nat.{suc-mul, zero-mul, add-mul, mul-le-mul_right, zero-add, suc-add, le_refl}
use native.Mathlib.Numerals.{add-one}
use native.Mathlib.Omega.{arith}
use lib.Dec.{T, ltb, ltb→lt, nltb→le}
use lib.ListN.{length, take, drop, replicate, length-drop, length-replicate, length-append}
use lib.Seq.{drop-drop, take-take, take_all, take_at, drop_at, length-take-le}
use Rattle.words.specs.Parts.{put}
use Rattle.words.specs.Xor.{xors}
use Rattle.words.proofs.Parts.{drop_more}
use Rattle.words.proofs.Xor.{xors_length, xors_assoc, xors_comm, xors_self, xors_zero, xors_cancel}
use Rattle.parity.specs.Parity.{part, xor_parts, parity_of, rebuilt_of}

pub drop_swap : (m n : ℕ) (s : List ℕ) → drop m (drop n s) ≡ drop n (drop m s)
drop_swap m n s = drop-drop m n s ∙ (let over : n + m ≡ m + n = omega arith in ap (λ (k : ℕ). drop k s) over) ∙ sym (drop-drop n m s)

pub part_of_take : (at n long : ℕ) (s : List ℕ) → at + n ≤ long → take n (drop at (take long s)) ≡ take n (drop at s)
part_of_take zero n long s h = take-take n long s (omega arith)
part_of_take (suc at) n zero s h = absurd (omega arith)
part_of_take (suc at) n (suc long) [] h = refl
part_of_take (suc at) n (suc long) (x ∷ s) h = part_of_take at n long s (omega arith)

-- ---- lengths

-- each of k parts ends within them
pub ends : (long j k : ℕ) → j < k → j * long + long ≤ k * long
ends long j k h = rw suc-mul at (mul-le-mul_right long h)

-- what is behind the lost part
pub behind : (long count lost n : ℕ) → lost ≤ count → n ≡ (count + 1) * long → lost * long + long + (count - lost) * long ≡ n
behind long count lost n h e =
    let parted : count + 1 ≡ lost + suc (count - lost) = omega arith in
    omega (arith, add-mul lost (suc (count - lost)) long, suc-mul (count - lost) long, rw parted at e)

pub xor_parts_length : (long k : ℕ) (out s : List ℕ) → length out ≡ long → k * long ≤ length s → length (xor_parts long k out s) ≡ long
unfolding xor_parts
xor_parts_length long zero out s e h = e
xor_parts_length long (suc k) out s e h =
    let first : long ≤ length s = omega (arith, suc-mul k long) in
    let long_enough : length (take long s) ≡ long = length-take-le long s first in
    let rest : k * long ≤ length (drop long s) = simp length-drop (omega (arith, suc-mul k long)) in
    xor_parts_length long k (xors out (take long s)) (drop long s) (xors_length out (take long s) (e ∙ sym long_enough) ∙ e) rest

pub parity_of_length : (long k : ℕ) (s : List ℕ) → k * long ≤ length s → length (parity_of long k s) ≡ long
unfolding parity_of
parity_of_length long k s h = xor_parts_length long k (replicate long 0) s (length-replicate long 0) h

pub part_length : (long j k : ℕ) (s : List ℕ) → j < k → length s ≡ k * long → length (part long j s) ≡ long
unfolding part
part_length long j k s h e = length-take-le long (drop (j * long) s) (simp length-drop (omega (arith, ends long j k h)))

-- ---- a part of what follows is a later part
pub part_on : (long i j : ℕ) (s : List ℕ) → part long j (drop (i * long) s) ≡ part long (i + j) s
unfolding part
part_on long i j s = ap (take long) (drop-drop (j * long) (i * long) s ∙ ap (λ (n : ℕ). drop n s) (sym (add-mul i j long)))

pub part_before : (long j k : ℕ) (s : List ℕ) → j < k → part long j (take (k * long) s) ≡ part long j s
unfolding part
part_before long j k s h = part_of_take (j * long) long (k * long) s (ends long j k h)

pub part_first : (long : ℕ) (s : List ℕ) → part long 0 s ≡ take long s
unfolding part
part_first long s = rw zero-mul

pub part_next : (long j : ℕ) (s : List ℕ) → part long j (drop long s) ≡ part long (suc j) s
unfolding part
part_next long j s = ap (take long) (drop_more long j s)

-- ---- nothing but the parts is looked at
pub by_parts : (long k : ℕ) (out s t : List ℕ) → ((j : ℕ) → j < k → part long j s ≡ part long j t) → xor_parts long k out s ≡ xor_parts long k out t
unfolding xor_parts
by_parts long zero out s t h = refl
by_parts long (suc k) out s t h =
    let first : take long s ≡ take long t = sym (part_first long s) ∙ h 0 (omega arith) ∙ part_first long t in
    ap (λ (l : List ℕ). xor_parts long k (xors out l) (drop long s)) first
    ∙ by_parts long k (xors out (take long t)) (drop long s) (drop long t)
    (λ j l. part_next long j s ∙ h (suc j) (omega arith) ∙ sym (part_next long j t))

-- ---- some parts and then the others
xor_parts_add : (long i j : ℕ) (out s : List ℕ) → xor_parts long (i + j) out s ≡ xor_parts long j (xor_parts long i out s) (drop (i * long) s)
unfolding xor_parts
xor_parts_add long zero j out s = rw (zero-add, zero-mul)
xor_parts_add long (suc i) j out s =
    rw suc-add
    (xor_parts_add long i j (xors out (take long s)) (drop long s)
    ∙ ap (xor_parts long j (xor_parts long i (xors out (take long s)) (drop long s))) (drop_more long i s))

-- ---- the order does not matter
xors_last : (a b c : List ℕ) → xors (xors a b) c ≡ xors (xors a c) b
xors_last a b c = xors_assoc a b c ∙ ap (xors a) (xors_comm b c) ∙ sym (xors_assoc a c b)

pub xor_parts_out : (long k : ℕ) (out x s : List ℕ) → xor_parts long k (xors out x) s ≡ xors (xor_parts long k out s) x
unfolding xor_parts
xor_parts_out long zero out x s = refl
xor_parts_out long (suc k) out x s =
    ap (λ (l : List ℕ). xor_parts long k l (drop long s)) (xors_last out x (take long s)) ∙ xor_parts_out long k (xors out (take long s)) x (drop long s)

first_last : (long n : ℕ) (p s : List ℕ) → xor_parts long (suc n) p s ≡ xors (xor_parts long n p (drop long s)) (take long s)
unfolding xor_parts
first_last long n p s = xor_parts_out long n p (take long s) (drop long s)

pub past : (long lost : ℕ) (s : List ℕ) → drop long (drop (lost * long) s) ≡ drop ((lost + 1) * long) s
past long lost s = drop-drop long (lost * long) s ∙ rw (add-one, suc-mul)

-- the parts but one, and then that one
pub all_but_one : (long k lost : ℕ) (s : List ℕ) → lost ≤ k → parity_of long (suc k) s ≡ xors (rebuilt_of long k lost s) (part long lost s)
unfolding parity_of rebuilt_of part
all_but_one long k lost s h =
    (let count : suc k ≡ lost + suc (k - lost) = omega arith in rw count (xor_parts_add long lost (suc (k - lost)) (replicate long 0) s))
    ∙ first_last long (k - lost) (xor_parts long lost (replicate long 0) s) (drop (lost * long) s)
    ∙ rw past

pub rebuilt_of_length : (long k lost : ℕ) (s : List ℕ) → lost ≤ k → length s ≡ (k + 1) * long → length (rebuilt_of long k lost s) ≡ long
unfolding rebuilt_of
rebuilt_of_length long k lost s h e =
    let all = behind long k lost (length s) h e in
    let next : (lost + 1) * long ≡ lost * long + long = rw (add-one, suc-mul) in
    xor_parts_length long (k - lost) (parity_of long lost s) _ (parity_of_length long lost s (omega (arith, all))) (simp length-drop (omega (arith, all, next)))

-- no byte of the lost part is looked at
pub others_only : (long k lost : ℕ) (s t : List ℕ) → lost ≤ k → ((j : ℕ) → j ≤ k → (j ≡ lost → ⊥) → part long j s ≡ part long j t)
    → rebuilt_of long k lost s ≡ rebuilt_of long k lost t
unfolding rebuilt_of parity_of
others_only long k lost s t h same =
    ap (λ (l : List ℕ). xor_parts long (k - lost) l (drop ((lost + 1) * long) s))
    (by_parts long lost (replicate long 0) s t (λ j l. same j (omega arith) (λ e. omega arith)))
    ∙ by_parts long (k - lost) (xor_parts long lost (replicate long 0) t) (drop ((lost + 1) * long) s) (drop ((lost + 1) * long) t)
    (λ j l.
    part_on long (lost + 1) j s ∙ same (lost + 1 + j) (omega arith) (λ e. omega arith)
    ∙ sym (part_on long (lost + 1) j t))

-- ---- members and their parity

-- two lists whose exclusive or is zero are one
alike : (a b : List ℕ) → length a ≡ length b → xors a b ≡ replicate (length b) 0 → a ≡ b
alike a b h e = sym (xors_cancel a b h) ∙ ap (λ (l : List ℕ). xors l b) e ∙ xors_comm (replicate (length b) 0) b ∙ xors_zero b

module _ (long k : ℕ) (s : List ℕ) (whole : length s ≡ k * long) where
  abbrev parity : List ℕ
  parity = parity_of long k s

  parity_long : length parity ≡ long
  parity_long = parity_of_length long k s (omega arith)

  -- of the parts, the first k are the members and the last is the parity
  pub member_part : (j : ℕ) → j < k → part long j (s ++ parity) ≡ part long j s
  member_part j h = sym (part_before long j k (s ++ parity) h) ∙ ap (part long j) (take_at s parity (k * long) whole)

  pub parity_part : part long k (s ++ parity) ≡ parity
  unfolding part
  parity_part = ap (take long) (drop_at s parity (k * long) whole) ∙ take_all long parity (omega (arith, parity_long))

  without_last : rebuilt_of long k k (s ++ parity) ≡ parity
  unfolding rebuilt_of parity_of xor_parts
  without_last =
      let none : k - k ≡ 0 = omega arith in
      rw none (by_parts long k (replicate long 0) (s ++ parity_of long k s) s member_part)

  -- the exclusive or of them all is zero
  all_zero : parity_of long (suc k) (s ++ parity) ≡ replicate long 0
  all_zero =
      all_but_one long k k (s ++ parity) (le_refl k) ∙ ap₂ xors without_last parity_part ∙ xors_self parity
      ∙ ap (λ (n : ℕ). replicate n 0) parity_long

  all_long : length (s ++ parity) ≡ (k + 1) * long
  all_long = rw (length-append, whole, parity_long, add-one, suc-mul)

  -- so that each is the exclusive or of the others
  pub any_part : (lost : ℕ) → lost ≤ k → rebuilt_of long k lost (s ++ parity) ≡ part long lost (s ++ parity)
  any_part lost h =
      let size : length (part long lost (s ++ parity)) ≡ long = part_length long lost (k + 1) (s ++ parity) (omega arith) all_long in
      alike (rebuilt_of long k lost (s ++ parity)) (part long lost (s ++ parity))
      (rebuilt_of_length long k lost (s ++ parity) h all_long ∙ sym size)
      (sym (all_but_one long k lost (s ++ parity) h) ∙ all_zero ∙ ap (λ (n : ℕ). replicate n 0) (sym size))

-- ---- one part replaced
pub by_side : {G : Type 0} (b : Bool) → (T b → G) → (T (not b) → G) → G
by_side true l r = l tt
by_side false l r = r tt

module _ (long m : ℕ) (new s : List ℕ) (room : m * long + long ≤ length s) (size : length new ≡ long) where
  before_length : length (take (m * long) s) ≡ m * long
  before_length = length-take-le (m * long) s (omega arith)

  pub put_part : part long m (put (m * long) new s) ≡ new
  unfolding part put
  put_part = ap (take long) (drop_at (take (m * long) s) _ (m * long) before_length) ∙ take_at new _ long size

  put_before : (j : ℕ) → j < m → part long j (put (m * long) new s) ≡ part long j s
  unfolding put
  put_before j h =
      sym (part_before long j m (put (m * long) new s) h)
      ∙ ap (part long j) (take_at (take (m * long) s) _ (m * long) before_length)
      ∙ part_before long j m s h

  put_after : (j : ℕ) → part long (m + 1 + j) (put (m * long) new s) ≡ part long (m + 1 + j) s
  unfolding put
  put_after j =
      let next : (m + 1) * long ≡ m * long + length new = rw (add-one, suc-mul, size) in
      let seam : length (take (m * long) s ++ new) ≡ m * long + length new = rw (length-append, before_length) in
      sym (part_on long (m + 1) j (put (m * long) new s))
      ∙ ap (part long j)
      (rw next
      (ap (drop (m * long + length new)) (sym (append_assoc (take (m * long) s) new _))
      ∙ drop_at (take (m * long) s ++ new) _ (m * long + length new) seam))
      ∙ part_on long (m + 1) j s

  pub put_other : (j : ℕ) → (j ≡ m → ⊥) → part long j (put (m * long) new s) ≡ part long j s
  put_other j n =
      by_side (ltb j m) (λ t. put_before j (ltb→lt j m t))
      (λ t.
      let behind : m ≤ j = nltb→le j m t in
      let on : j ≡ m + 1 + (j - (m + 1)) = omega arith in
      rw on (put_after (j - (m + 1))))

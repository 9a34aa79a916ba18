-- Demand 3, on the definitions that the contracts cite and then for the calls themselves: parity's guard errors, parts that are lost and rebuilt,
-- parity that is corrected; and what a refusal leaves. Each is stated over any number of members and any part.
-- Assumes nothing.
use mathlib.Core.Path.{◌≡◌, sym, ap, ap₂, ◌∙◌}
use mathlib.Core.Logic.{◌↔◌}
use mathlib.Core.List.{List, ◌++◌}
use Prim.Native.Nat.{ℕ, zero, suc, ◌+◌, ◌*◌, ◌≤◌, ◌<◌}
use native.Mathlib.Nat.{add-mul, mul_assoc}
use native.Mathlib.Numerals.{add-one}
use native.Mathlib.Omega.{arith}
use lib.Bits.{bit_xor, xor_zero_l, xor_self}
use lib.Dec.{T_not, eqb, eqb→eq}
use lib.ListN.{length, drop, length-drop}
use Rattle.words.proofs.Choice.{same}
use Rattle.words.specs.Parts.{Bytes, put}
use Rattle.words.specs.Xor.{xors}
use Rattle.words.proofs.BitXor.{xor_cancel}
use Rattle.words.proofs.Parts.{put_length, drop_bytes}
use Rattle.words.proofs.Xor.{xors_drop, xors_length, xors_cancel}
use Rattle.guard.specs.Guard.{guard}
use Rattle.field.specs.Field.{data_of, field_of, stored_guard}
use Rattle.answer.specs.Answer.{Answer, good}
use Rattle.answer.specs.Outcome.{Outcome, outcome}
use Rattle.answer.proofs.Outcome.{keeps}
use Rattle.segment.specs.declared.Description.{Description}
use Rattle.segment.specs.Segment.{IsSegment, intervals_of, size_of, stored_of, length_of}
use Rattle.segment.specs.Places.{begin_of}
use Rattle.segment.proofs.Laws.{stored_intervals}
use Rattle.segment.proofs.Places.{interval_begins}
use Rattle.parity.specs.Parity.{part, parity_of, rebuilt_of, corrected_of}
use Rattle.parity.proofs.Sums.{by_side, member_part, parity_part, any_part, all_but_one, others_only, parity_of_length, rebuilt_of_length, ends, part_length, put_part, put_other}
use Rattle.stripe.specs.Stripe.{made, rebuilt, corrected}
use Rattle.stripe.specs.Fit.{Making, Rebuilding, Correcting}
use Rattle.stripe.specs.Error.{error_at, member_error, error_in, xor_over}
use Rattle.stripe.proofs.Fits.{not_zero, make_is, make_only, rebuild_is, rebuild_only, correct_is, correct_only}
use Rattle.stripe.proofs.Errors.{error_xors, over_same, over_zero, over_one, of_parity}

-- ---- guard errors

-- an interval's guard error is 0 exactly if its stored guard is the guard of its data
pub right_exactly : (size : ℕ) (s : List ℕ) → (error_at size s ≡ 0) ↔ (stored_guard (field_of size s) ≡ guard (data_of size s))
unfolding error_at
right_exactly size s = (
  λ e.
      sym (xor_cancel (stored_guard (field_of size s)) (guard (data_of size s)))
      ∙ ap (λ (x : ℕ). bit_xor x (guard (data_of size s))) e
      ∙ xor_zero_l (guard (data_of size s)),
  λ e. ap (λ (x : ℕ). bit_xor x (guard (data_of size s))) e ∙ xor_self (guard (data_of size s)),
)

-- an error that is the exclusive or of errors of which one alone may be other than 0
alike : (k m : ℕ) (f : ℕ → ℕ) {e : ℕ} → m < k → ((j : ℕ) → j < k → (j ≡ m → ⊥) → f j ≡ 0) → e ≡ f m → e ≡ xor_over k f
    → (e ≡ 0) ↔ ((j : ℕ) → j < k → f j ≡ 0)
alike k m f among others one all = (
  λ z j l.
      by_side (eqb j m)
      (λ t. ap f (eqb→eq j m t) ∙ sym one ∙ z)
      (λ t. others j l (λ y. T_not (eqb j m) t (same j m y))),
  λ none. all ∙ over_zero k f none,
)

module _ (long k size o : ℕ) (s : List ℕ) (bytes : Bytes s) (whole : length s ≡ k * long) where
  -- the parity's guard error at an interval is the exclusive or of the members' errors there, right or wrong
  pub parity_error : error_at size (drop o (parity_of long k s)) ≡ xor_over k (member_error long size o s)
  parity_error =
      of_parity (λ l. error_at size (drop o l)) long
      (λ a b ea eb p q.
      ap (error_at size) (xors_drop o a b)
      ∙ error_xors size (drop o a) (drop o b) (simp (length-drop, ea, eb)) (drop_bytes o a p) (drop_bytes o b q))
      k s (omega arith) bytes

  -- where no member errs, the parity does not
  pub none_errs : ((j : ℕ) → j < k → member_error long size o s j ≡ 0) → error_at size (drop o (parity_of long k s)) ≡ 0
  none_errs e = parity_error ∙ over_zero k (member_error long size o s) e

  module _ (m : ℕ) (among : m < k) (others : (j : ℕ) → j < k → (j ≡ m → ⊥) → member_error long size o s j ≡ 0) where
    -- where at most one member errs, the parity's error is that member's
    pub one_errs : error_at size (drop o (parity_of long k s)) ≡ member_error long size o s m
    one_errs = parity_error ∙ over_one k m (member_error long size o s) among others

    -- so that the parity errs exactly if a member does
    pub errs_alike : (error_at size (drop o (parity_of long k s)) ≡ 0) ↔ ((j : ℕ) → j < k → member_error long size o s j ≡ 0)
    errs_alike = alike k m (member_error long size o s) among others one_errs parity_error

-- ---- lost and rebuilt

-- of members and their parity, any part that is lost comes back byte for byte
-- (of the parts, `member-part` and `parity-part` say that the first k are the members and that the last is the parity)
pub lost_and_rebuilt : (long k lost : ℕ) (s parts : List ℕ) → length s ≡ k * long → lost ≤ k → parts ≡ s ++ parity_of long k s
    → rebuilt_of long k lost parts ≡ part long lost parts
lost_and_rebuilt long k lost s parts e h is = rw is (any_part long k s e lost h)

-- no byte of the lost part is used: parts that agree elsewhere give the same
pub lost_not_used : (long k lost : ℕ) (s t : List ℕ) → lost ≤ k → ((j : ℕ) → j ≤ k → (j ≡ lost → ⊥) → part long j s ≡ part long j t)
    → rebuilt_of long k lost s ≡ rebuilt_of long k lost t
lost_not_used = others_only

-- ---- corrected is fresh

-- where member m's bytes become new ones, corrected parity is the parity of the new members
pub corrected_is_fresh : (long k m : ℕ) (s old new : List ℕ) → length s ≡ k * long → m < k → old ≡ part long m s → length new ≡ long
    → corrected_of old new (parity_of long k s) ≡ parity_of long k (put (m * long) new s)
unfolding corrected_of
corrected_is_fresh long zero m s old new e h is size = absurd (omega arith)
corrected_is_fresh long (suc k) m s old new e h is size =
    let up : suc k ≡ k + 1 = sym (add-one k) in
    let room : m * long + long ≤ length s = rw e (ends long m (suc k) h) in
    let others = others_only long k m (put (m * long) new s) s (omega arith) (λ j l n. put_other long m new s room size j n) in
    let rest-long = rebuilt_of_length long k m s (omega arith) (rw up at e) in
    let same_size : length (rebuilt_of long k m s) ≡ length (part long m s) = rest-long ∙ sym (part_length long m (suc k) s h e) in
    rw is
    (ap (λ (l : List ℕ). xors (xors l (part long m s)) new) (all_but_one long k m s (omega arith))
    ∙ ap (λ (l : List ℕ). xors l new) (xors_cancel (rebuilt_of long k m s) (part long m s) same_size)
    ∙ sym (all_but_one long k m (put (m * long) new s) (omega arith) ∙ ap₂ xors others (put_part long m new s room size)))

-- there and back is no change
pub there_and_back : (old new p : List ℕ) → length old ≡ length p → length new ≡ length p → corrected_of new old (corrected_of old new p) ≡ p
unfolding corrected_of
there_and_back old new p eo en =
    let once : length (xors p old) ≡ length new = xors_length p old (sym eo) ∙ sym en in
    ap (λ (l : List ℕ). xors l old) (xors_cancel (xors p old) new once) ∙ xors_cancel p old (sym eo)

-- ---- exactly when a call is good, and what it then leaves: `outcome good l` is the outcome of a call that is good and leaves l

-- a good outcome that a definition gives is what the definition leaves
leaves : (x : Outcome (List ℕ)) (l new : List ℕ) → x ≡ outcome good new → outcome good l ≡ x → l ≡ new
leaves x l new is e = ap (λ (y : Outcome (List ℕ)). y.left) (e ∙ is)

answered : (x : Outcome (List ℕ)) (l : List ℕ) → outcome good l ≡ x → x.answer ≡ good
answered x l e = sym (ap (λ (y : Outcome (List ℕ)). y.answer) e)

module _ (d : Description) (k : ℕ) (s out : List ℕ) where
  pub make_good_exactly : ((made d k s out).answer ≡ good) ↔ Making d k s out
  make_good_exactly = (make_only d k s out, λ m. ap (λ (y : Outcome (List ℕ)). y.answer) (make_is d k s out m))

  pub make_leaves : (l : List ℕ) → outcome good l ≡ made d k s out → (l ≡ parity_of (length_of d) k s) × (length l ≡ length_of d)
  make_leaves l e =
      let m = make_only d k s out (answered _ l e) in
      let is = leaves _ l _ (make_is d k s out m) e in
      (is, ap length is ∙ parity_of_length (length_of d) k s (omega (arith, m.whole)))

module _ (d : Description) (k lost : ℕ) (s out : List ℕ) where
  pub rebuild_good_exactly : ((rebuilt d k lost s out).answer ≡ good) ↔ Rebuilding d k lost s out
  rebuild_good_exactly = (rebuild_only d k lost s out, λ m. ap (λ (y : Outcome (List ℕ)). y.answer) (rebuild_is d k lost s out m))

  pub rebuild_leaves : (l : List ℕ) → outcome good l ≡ rebuilt d k lost s out → (l ≡ rebuilt_of (length_of d) k lost s) × (length l ≡ length_of d)
  rebuild_leaves l e =
      let m = rebuild_only d k lost s out (answered _ l e) in
      let is = leaves _ l _ (rebuild_is d k lost s out m) e in
      (is, ap length is ∙ rebuilt_of_length (length_of d) k lost s m.among m.whole)

corrected_length : (old new parity : List ℕ) (long : ℕ) → length old ≡ long → length new ≡ long → length parity ≡ long → length (corrected_of old new parity) ≡ long
unfolding corrected_of
corrected_length old new parity long o n p =
    let once : length (xors parity old) ≡ long = xors_length parity old (p ∙ sym o) ∙ p in
    xors_length (xors parity old) new (once ∙ sym n) ∙ once

module _ (d : Description) (old new parity : List ℕ) where
  pub correct_good_exactly : ((corrected d old new parity).answer ≡ good) ↔ Correcting d old new parity
  correct_good_exactly = (correct_only d old new parity, λ m. ap (λ (y : Outcome (List ℕ)). y.answer) (correct_is d old new parity m))

  pub correct_leaves : (l : List ℕ) → outcome good l ≡ corrected d old new parity → (l ≡ corrected_of old new parity) × (length l ≡ length_of d)
  correct_leaves l e =
      let m = correct_only d old new parity (answered _ l e) in
      let is = leaves _ l _ (correct_is d old new parity m) e in
      (is, ap length is ∙ corrected_length old new parity (length_of d) m.old_whole m.new_whole m.room)

-- ---- the places of a segment's intervals
module _ (d : Description) (segment : IsSegment d) (typed : 1 ≤ d.kind) (j i : ℕ) where
  -- block j, and in it interval i
  pub begin_in_block : begin_of d j i ≡ j * stored_of d + i * (size_of d + 8)
  unfolding begin_of
  begin_in_block =
      add-mul (j * intervals_of d) i (size_of d + 8)
      ∙ ap (λ (x : ℕ). x + i * (size_of d + 8))
      (mul_assoc j (intervals_of d) (size_of d + 8) ∙ ap (λ (x : ℕ). j * x) (sym (stored_intervals d segment (not_zero d.kind typed))))

  -- an interval and its field end within the segment
  pub interval_within : j < d.count → i < intervals_of d → begin_of d j i + (size_of d + 8) ≤ length_of d
  unfolding length_of
  interval_within h l =
      let stored = stored_intervals d segment (not_zero d.kind typed) in
      omega (arith, begin_in_block, stored, ends (size_of d + 8) i (intervals_of d) l, ends (stored_of d) j d.count h)

-- ---- demand 3 for the calls: a good `make` of k members left `parity`
module _ (d : Description) (k : ℕ) (s out parity : List ℕ) (told : outcome good parity ≡ made d k s out) where
  making : Making d k s out
  making = make_only d k s out (answered _ parity told)

  is_parity : parity ≡ parity_of (length_of d) k s
  is_parity = (make_leaves d k s out parity told).0

  module _ (bytes : Bytes s) (j i : ℕ) where
    begin : (l : List ℕ) → error_in d j i l ≡ error_at (size_of d) (drop (begin_of d j i) l)
    begin l = ap (error_at (size_of d)) (interval_begins d l j i)

    -- at each interval the parity's guard error is the exclusive or of the members' guard errors there, right or wrong
    pub made_error : error_in d j i parity ≡ xor_over k (λ m. error_in d j i (part (length_of d) m s))
    made_error =
        begin parity ∙ ap (λ (l : List ℕ). error_at (size_of d) (drop (begin_of d j i) l)) is_parity
        ∙ parity_error (length_of d) k (size_of d) (begin_of d j i) s bytes making.whole
        ∙ over_same k _ _ (λ m. sym (begin (part (length_of d) m s)))

    module _ (m : ℕ) (among : m < k) (others : (n : ℕ) → n < k → (n ≡ m → ⊥) → error_in d j i (part (length_of d) n s) ≡ 0) where
      -- where at most one member errs, the parity's error is that member's
      pub made_one_errs : error_in d j i parity ≡ error_in d j i (part (length_of d) m s)
      made_one_errs = made_error ∙ over_one k m (λ n. error_in d j i (part (length_of d) n s)) among others

      -- so that the parity errs exactly if a member does
      pub made_errs_alike : (error_in d j i parity ≡ 0) ↔ ((n : ℕ) → n < k → error_in d j i (part (length_of d) n s) ≡ 0)
      made_errs_alike = alike k m (λ n. error_in d j i (part (length_of d) n s)) among others made_one_errs made_error

  -- of parts that agree with the members and their parity in every part but the lost one, whose bytes are arbitrary, `rebuild` is good and leaves the
  -- lost part, byte for byte
  pub lost_comes_back : (lost : ℕ) (parts room : List ℕ) → lost ≤ k → length parts ≡ (k + 1) * length_of d → length room ≡ length_of d
      → ((j : ℕ) → j ≤ k → (j ≡ lost → ⊥) → part (length_of d) j parts ≡ part (length_of d) j (s ++ parity))
      → rebuilt d k lost parts room ≡ outcome good (part (length_of d) lost (s ++ parity))
  lost_comes_back lost parts room among whole fits agree =
      let m = making in
      rebuild_is d k lost parts room
      (record { segment = m.segment; typed = m.typed; some = m.some; few = m.few; among = among; whole = whole; room = fits })
      ∙ ap (outcome good)
      (lost_not_used (length_of d) k lost parts (s ++ parity) among agree
      ∙ lost_and_rebuilt (length_of d) k lost s (s ++ parity) m.whole among (ap (λ (l : List ℕ). s ++ l) is_parity))

  -- the lost part is member `lost`, or the parity itself where `lost` is k
  pub lost_member : (lost : ℕ) → lost < k → part (length_of d) lost (s ++ parity) ≡ part (length_of d) lost s
  lost_member lost h = rw is_parity (member_part (length_of d) k s making.whole lost h)

  pub lost_parity : part (length_of d) k (s ++ parity) ≡ parity
  lost_parity = rw is_parity (parity_part (length_of d) k s making.whole)

  -- where member m's bytes become new ones, `correct` leaves of the parity what `make` makes afresh of the new members
  pub correct_makes_afresh : (m : ℕ) (old new room : List ℕ) → m < k → old ≡ part (length_of d) m s → length new ≡ length_of d → length room ≡ length_of d
      → corrected d old new parity ≡ made d k (put (m * length_of d) new s) room
  correct_makes_afresh m old new room among is size fits =
      let f = making in
      let old_whole : length old ≡ length_of d = ap length is ∙ part_length (length_of d) m k s among f.whole in
      correct_is d old new parity
      (record { segment = f.segment; typed = f.typed; old_whole = old_whole; new_whole = size; room = (make_leaves d k s out parity told).1 })
      ∙ ap (outcome good)
      (ap (corrected_of old new) is_parity ∙ corrected_is_fresh (length_of d) k m s old new f.whole among is size)
      ∙ sym
      (make_is d k (put (m * length_of d) new s) room
      (record { segment = f.segment; typed = f.typed; some = f.some; few = f.few; whole = put_whole; room = fits }))
    where
      put_whole : length (put (m * length_of d) new s) ≡ k * length_of d
      put_whole = put_length (m * length_of d) new s (rw (size, making.whole) (ends (length_of d) m k among)) ∙ making.whole

-- ---- "Any answer but 0 changes no lent byte"
pub make_keeps : (d : Description) (k : ℕ) (s out : List ℕ) (a : Answer) (l : List ℕ) → outcome a l ≡ made d k s out → (a ≡ good → ⊥) → l ≡ out
unfolding made
make_keeps d k s out a l = keeps _ out _

pub rebuild_keeps : (d : Description) (k lost : ℕ) (s out : List ℕ) (a : Answer) (l : List ℕ) → outcome a l ≡ rebuilt d k lost s out → (a ≡ good → ⊥) → l ≡ out
unfolding rebuilt
rebuild_keeps d k lost s out a l = keeps _ out _

pub correct_keeps : (d : Description) (old new parity : List ℕ) (a : Answer) (l : List ℕ) → outcome a l ≡ corrected d old new parity → (a ≡ good → ⊥) → l ≡ parity
unfolding corrected
correct_keeps d old new parity a l = keeps _ parity _

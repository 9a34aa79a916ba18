-- What each call answers, and what it leaves, by the facts of a fit.
-- Assumes nothing.
use mathlib.Core.Path.{◌≡◌, refl, sym, ap, ◌∙◌}
use mathlib.Core.Bool.{true, ◌&&◌}
use mathlib.Core.List.{List, []}
use Prim.Native.Nat.{ℕ, ◌+◌, ◌*◌, ◌≤◌}
use native.Mathlib.Omega.{arith}
use lib.Dec.{T, eqb, leb, leb→le, le→leb, eqb→eq}
use lib.ListN.{length}
use Rattle.words.proofs.Choice.{and_true, and_left, and_right, and_assoc, same}
use Rattle.words.specs.Xor.{xors}
use Rattle.std.specs.Prelude.{Err}
use Rattle.answer.specs.Answer.{Answer, good, refused, is_good}
use Rattle.answer.specs.Outcome.{outcome, leaving}
use Rattle.answer.specs.declared.Reason.TheVariants as reasons
use Rattle.answer.specs.declared.Refusal.{Refusal}
use Rattle.answer.proofs.Outcome.{refuses, leaves}
use Rattle.segment.specs.declared.Description.{Description}
use Rattle.segment.specs.Segment.{IsSegment, length_of}
use Rattle.parity.specs.Parity.{xor_parts, parity_of, rebuilt_of, corrected_of}
use Rattle.parity.specs.Stretch.{joined}
use Rattle.stripe.specs.Stripe.{stripe_rules, in_range, made, rebuilt, corrected}
use Rattle.stripe.specs.Fit.{Making, Rebuilding, Correcting}
use Rattle.stripe.proofs.Ladder.{range_facts, lost_facts, range_true, rules_good, rules_bad, rules_facts, passed, stopped}

good_is : (rule : Answer) (old new : List ℕ) → rule ≡ good → leaving rule old new ≡ outcome good new
good_is rule old new e = sym (leaves rule old new e refl)

some_type : (n : ℕ) → (n ≡ 0 → ⊥) → 1 ≤ n
some_type n h = omega arith

pub not_zero : (n : ℕ) → 1 ≤ n → n ≡ 0 → ⊥
not_zero n h e = omega arith

-- ---- making
module _ (d : Description) (k : ℕ) (s out : List ℕ) where
  making : IsSegment d → (d.kind ≡ 0 → ⊥) → T (in_range k && (eqb (length s) (k * length_of d) && eqb (length out) (length_of d))) → Making d k s out
  making g n t =
      let lengths = and_right (in_range k) _ t in
      let count = range_facts k (and_left (in_range k) _ t) in
      record {
        segment = g;
        typed = some_type d.kind n;
        some = count.0;
        few = count.1;
        whole = eqb→eq (length s) (k * length_of d) (and_left (eqb (length s) (k * length_of d)) _ lengths);
        room = eqb→eq (length out) (length_of d) (and_right (eqb (length s) (k * length_of d)) _ lengths);
      }

  pub make_is : Making d k s out → made d k s out ≡ outcome good (parity_of (length_of d) k s)
  unfolding made
  make_is m =
      good_is _ _ _
      (rules_good d _ m.segment (not_zero d.kind m.typed)
      (and_true (in_range k) _ (range_true k m.some m.few)
      (and_true (eqb (length s) (k * length_of d)) _ (same (length s) (k * length_of d) m.whole) (same (length out) (length_of d) m.room))))

  pub make_only : (made d k s out).answer ≡ good → Making d k s out
  unfolding made
  make_only g = let f = rules_facts d _ (ap is_good g) in making f.0 f.1.0 f.1.1

  pub make_stopped : (e : Refusal) → Err e ≡ stripe_rules d (in_range k) → outcome (Err e) out ≡ made d k s out
  unfolding made
  make_stopped = stopped d (in_range k) _ out _

  -- where the rules pass
  module _ (long : ℕ) (l : long ≡ length_of d) (g : good ≡ stripe_rules d (in_range k)) where
    pub make_unfit : (length s ≡ k * long → length out ≡ long → ⊥) → outcome (refused reasons.StripeShapeBad) out ≡ made d k s out
    unfolding made
    make_unfit h =
        let segment = (passed d (in_range k) g).0 in
        refuses _ out _ (rules_bad d _ segment (λ typed shaped. let m = making segment typed shaped in h (m.whole ∙ ap (λ (x : ℕ). k * x) (sym l)) (m.room ∙ sym l)))

    pub make_good : length s ≡ k * long → length out ≡ long → (new : List ℕ) → new ≡ joined (length out) k s 0 [] → outcome good new ≡ made d k s out
    unfolding joined xor_parts
    make_good whole room new is =
        let p = passed d (in_range k) g in
        let count = range_facts k p.1.1 in
        ap (outcome good) (is ∙ ap (λ (x : ℕ). parity_of x k s) (room ∙ l))
        ∙ sym
        (make_is
        (record { segment = p.0; typed = some_type d.kind p.1.0; some = count.0; few = count.1; whole = whole ∙ ap (λ (x : ℕ). k * x) l; room = room ∙ l }))

-- ---- rebuilding
module _ (d : Description) (k lost : ℕ) (s out : List ℕ) where
  rebuilding : IsSegment d → (d.kind ≡ 0 → ⊥)
      → T (in_range k && (leb lost k && (eqb (length s) ((k + 1) * length_of d) && eqb (length out) (length_of d)))) → Rebuilding d k lost s out
  rebuilding g n t =
      let count = range_facts k (and_left (in_range k) _ t) in
      let rest = and_right (in_range k) _ t in
      let lengths = and_right (leb lost k) _ rest in
      record {
        segment = g;
        typed = some_type d.kind n;
        some = count.0;
        few = count.1;
        among = leb→le lost k (and_left (leb lost k) _ rest);
        whole = eqb→eq (length s) ((k + 1) * length_of d) (and_left (eqb (length s) ((k + 1) * length_of d)) _ lengths);
        room = eqb→eq (length out) (length_of d) (and_right (eqb (length s) ((k + 1) * length_of d)) _ lengths);
      }

  pub rebuild_is : Rebuilding d k lost s out → rebuilt d k lost s out ≡ outcome good (rebuilt_of (length_of d) k lost s)
  unfolding rebuilt
  rebuild_is m =
      good_is _ _ _
      (rules_good d _ m.segment (not_zero d.kind m.typed)
      (and_true (in_range k) _ (range_true k m.some m.few)
      (and_true (leb lost k) _ (le→leb lost k m.among)
      (and_true (eqb (length s) ((k + 1) * length_of d)) _ (same (length s) ((k + 1) * length_of d) m.whole) (same (length out) (length_of d) m.room)))))

  pub rebuild_only : (rebuilt d k lost s out).answer ≡ good → Rebuilding d k lost s out
  unfolding rebuilt
  rebuild_only g = let f = rules_facts d _ (ap is_good g) in rebuilding f.0 f.1.0 f.1.1

  pub rebuild_stopped : (e : Refusal) → Err e ≡ stripe_rules d (in_range k && leb lost k) → outcome (Err e) out ≡ rebuilt d k lost s out
  unfolding rebuilt
  rebuild_stopped e h = rw (← and_assoc (in_range k) (leb lost k) _) (stopped d (in_range k && leb lost k) _ out _ e h)

  module _ (long : ℕ) (l : long ≡ length_of d) (g : good ≡ stripe_rules d (in_range k && leb lost k)) where
    pub rebuild_unfit : (length s ≡ (k + 1) * long → length out ≡ long → ⊥) → outcome (refused reasons.StripeShapeBad) out ≡ rebuilt d k lost s out
    unfolding rebuilt
    rebuild_unfit h =
        let segment = (passed d (in_range k && leb lost k) g).0 in
        refuses _ out _ (rules_bad d _ segment (λ typed shaped. let m = rebuilding segment typed shaped in h (m.whole ∙ ap (λ (x : ℕ). (k + 1) * x) (sym l)) (m.room ∙ sym l)))

    pub rebuild_good : length s ≡ (k + 1) * long → length out ≡ long → (new : List ℕ) → new ≡ rebuilt_of (length out) k lost s → outcome good new ≡ rebuilt d k lost s out
    rebuild_good whole room new is =
        let p = passed d (in_range k && leb lost k) g in
        let numbers = lost_facts k lost p.1.1 in
        ap (outcome good) (is ∙ ap (λ (x : ℕ). rebuilt_of x k lost s) (room ∙ l))
        ∙ sym
        (rebuild_is
        (record {
          segment = p.0;
          typed = some_type d.kind p.1.0;
          some = numbers.0;
          few = numbers.1;
          among = numbers.2;
          whole = whole ∙ ap (λ (x : ℕ). (k + 1) * x) l;
          room = room ∙ l;
        }))

-- ---- correcting
module _ (d : Description) (old new parity : List ℕ) where
  correcting : IsSegment d → (d.kind ≡ 0 → ⊥) → T (eqb (length old) (length_of d) && (eqb (length new) (length_of d) && eqb (length parity) (length_of d))) → Correcting d old new parity
  correcting g n t =
      let lengths = and_right (eqb (length old) (length_of d)) _ t in
      record {
        segment = g;
        typed = some_type d.kind n;
        old_whole = eqb→eq (length old) (length_of d) (and_left (eqb (length old) (length_of d)) _ t);
        new_whole = eqb→eq (length new) (length_of d) (and_left (eqb (length new) (length_of d)) _ lengths);
        room = eqb→eq (length parity) (length_of d) (and_right (eqb (length new) (length_of d)) _ lengths);
      }

  pub correct_is : Correcting d old new parity → corrected d old new parity ≡ outcome good (corrected_of old new parity)
  unfolding corrected
  correct_is m =
      good_is _ _ _
      (rules_good d _ m.segment (not_zero d.kind m.typed)
      (and_true (eqb (length old) (length_of d)) _ (same (length old) (length_of d) m.old_whole)
      (and_true (eqb (length new) (length_of d)) _ (same (length new) (length_of d) m.new_whole) (same (length parity) (length_of d) m.room))))

  pub correct_only : (corrected d old new parity).answer ≡ good → Correcting d old new parity
  unfolding corrected
  correct_only g = let f = rules_facts d _ (ap is_good g) in correcting f.0 f.1.0 f.1.1

  pub correct_stopped : (e : Refusal) → Err e ≡ stripe_rules d true → outcome (Err e) parity ≡ corrected d old new parity
  unfolding corrected
  correct_stopped =
      stopped d true (eqb (length old) (length_of d) && (eqb (length new) (length_of d) && eqb (length parity) (length_of d))) parity _

  module _ (long : ℕ) (l : long ≡ length_of d) (g : good ≡ stripe_rules d true) where
    pub correct_unfit : (length old ≡ long → length new ≡ long → length parity ≡ long → ⊥) → outcome (refused reasons.StripeShapeBad) parity ≡ corrected d old new parity
    unfolding corrected
    correct_unfit h =
        let segment = (passed d true g).0 in
        refuses _ parity _
        (rules_bad d _ segment (λ typed shaped. let m = correcting segment typed shaped in h (m.old_whole ∙ sym l) (m.new_whole ∙ sym l) (m.room ∙ sym l)))

    pub correct_good : length old ≡ long → length new ≡ long → length parity ≡ long → (left : List ℕ) → left ≡ xors (xors parity old) new
        → outcome good left ≡ corrected d old new parity
    unfolding corrected_of
    correct_good old_whole new_whole room left is =
        let p = passed d true g in
        ap (outcome good) is
        ∙ sym
        (correct_is
        (record { segment = p.0; typed = some_type d.kind p.1.0; old_whole = old_whole ∙ l; new_whole = new_whole ∙ l; room = room ∙ l }))

-- The laws of a step: how many blocks it covers, what has been found in them, and what a call hands back.
-- Assumes nothing.
use mathlib.Core.Path.{◌≡◌, refl, sym, ap, ap₂, ◌∙◌}
use mathlib.Core.Bool.{Bool, true, false, cond}
use mathlib.Core.List.{List}
use Prim.Native.Nat.{ℕ, zero, suc, ◌+◌, ◌-◌, ◌≤◌, ◌<◌}
use native.Mathlib.Nat.{add-zero, zero-add, add_assoc}
use native.Mathlib.Omega.{arith}
use borrow.Author.Tests.{le-leb, lt-leb, leb-true, leb-false, ltb-false}
use lib.Dec.{leb}
use lib.ListN.{length}
use Rattle.std.specs.Prelude.{min, Option, Some, None, Err}
use Rattle.std.specs.Option.{unwrap_or, option_or}
use Rattle.answer.specs.Answer.{good, is_good}
use Rattle.answer.specs.declared.Refusal.{Refusal}
use Rattle.answer.proofs.Ladder.{both_good, not_refused}
use Rattle.segment.specs.declared.Description.{Description}
use Rattle.segment.specs.Segment.{IsSegment, length_of}
use Rattle.segment.specs.Rules.{segment_rules}
use Rattle.segment.specs.Places.{place_rule}
use Rattle.segment.proofs.Rules.{rules_segment}
use Rattle.scrub.specs.declared.Found.{Found}
use Rattle.scrub.specs.Scrub.{faulty_at, faults_from, first_from, covered_of, Stepped, scrub_rules, refused, scrubbed}
use Rattle.scrub.specs.Onward.{Named, with_block}
use Rattle.scrub.proofs.Judging.{fault_plain}

-- ---- how many blocks a step covers
module _ (d : Description) (place blocks : ℕ) where
  pub covered_all : blocks ≤ d.count - place → covered_of d place blocks ≡ blocks
  unfolding covered_of
  covered_all h = rw (le-leb blocks (d.count - place) h)

  pub covered_left : d.count - place < blocks → covered_of d place blocks ≡ d.count - place
  unfolding covered_of
  covered_left h = rw (lt-leb blocks (d.count - place) h)

  pub covered_min : min blocks (d.count - place) ≡ covered_of d place blocks
  unfolding covered_of
  covered_min = by (leb blocks (d.count - place)) refl
    where
      by : (b : Bool) → leb blocks (d.count - place) ≡ b → min blocks (d.count - place) ≡ cond b blocks (d.count - place)
      by true e = let h = leb-true blocks (d.count - place) e in omega arith
      by false e = let h = leb-false blocks (d.count - place) e in omega arith

  pub covered_most : place ≤ d.count → place + covered_of d place blocks ≤ d.count
  unfolding covered_of
  covered_most h = by (leb blocks (d.count - place)) refl
    where
      by : (b : Bool) → leb blocks (d.count - place) ≡ b → place + cond b blocks (d.count - place) ≤ d.count
      by true e = omega (arith, leb-true blocks (d.count - place) e)
      by false e = omega arith

-- ---- of the blocks from a place on, the first and those behind it
module _ (d : Description) (s : List ℕ) (place count judged : ℕ) (h : judged < count) where
  left : count - judged ≡ suc (count - (judged + 1))
  left = omega arith

  faults_left : faults_from d s (place + judged) (count - judged)
      ≡ cond (faulty_at d s (place + judged)) 1 0 + faults_from d s (place + (judged + 1)) (count - (judged + 1))
  unfolding faults_from
  faults_left = rw (left, ← add_assoc place judged 1) refl

  first_left : first_from d s (place + judged) (count - judged)
      ≡ cond (faulty_at d s (place + judged)) (d.first + (place + judged)) (first_from d s (place + (judged + 1)) (count - (judged + 1)))
  unfolding first_from
  first_left = rw (left, ← add_assoc place judged 1) refl

-- ---- type 0: none is found
module _ (d : Description) (s : List ℕ) (plain : d.kind ≡ 0) where
  faults_plain : (k at : ℕ) → faults_from d s at k ≡ 0
  unfolding faults_from
  faults_plain zero at = refl
  faults_plain (suc k) at = rw (fault_plain d s at plain, faults_plain k (at + 1)) refl

  first_plain : (k at : ℕ) → first_from d s at k ≡ 0
  unfolding first_from
  first_plain zero at = refl
  first_plain (suc k) at = rw (fault_plain d s at plain) (first_plain k (at + 1))

  pub stepped_plain : {place blocks count : ℕ} → count ≡ covered_of d place blocks → Stepped d s place blocks count 0 0
  stepped_plain {place} {blocks} {count} e =
      record { judged = e; faults = sym (faults_plain count place); first = sym (first_plain count place) }

-- ---- a step stands so: what has been found, with what is left, gives what all of its blocks give
pub record Going (d : Description) (s : List ℕ) (place count : ℕ) (found : Found) (judged : ℕ) : Type 0 where
  pub most : found.faults ≤ judged
  pub named : Named found
  pub faults : found.faults + faults_from d s (place + judged) (count - judged) ≡ faults_from d s place count
  pub first : unwrap_or found.first (first_from d s (place + judged) (count - judged)) ≡ first_from d s place count

pub begins : (d : Description) (s : List ℕ) (place count : ℕ) → Going d s place count (record { faults = 0; first = None }) 0
begins d s place count =
    let all : count - 0 ≡ count = omega arith in
    record {
      most = omega arith;
      named = (λ e. refl, λ e. refl);
      faults = rw (add-zero place, all, zero-add) refl;
      first = rw (add-zero place, all) refl;
    }

-- the first that is named stays, else the one more is
first_or : (o : Option ℕ) (a n : ℕ) → unwrap_or (option_or o (Some a)) n ≡ unwrap_or o a
first_or None a n = refl
first_or (Some x) a n = refl

some_first : (o : Option ℕ) (a : ℕ) → option_or o (Some a) ≡ None → ⊥
some_first None a e = cc
some_first (Some x) a e = cc

module _ {d : Description} {s : List ℕ} {place count : ℕ} {found : Found} {judged : ℕ} (g : Going d s place count found judged) where
  pub turn : judged < count → (b : Bool) → b ≡ faulty_at d s (place + judged) → Going d s place count (with_block b (d.first + (place + judged)) found) (judged + 1)
  turn h true e =
      record {
        most = omega (arith, g.most);
        named = (λ z. absurd (some_first found.first _ z), λ z. absurd (omega arith));
        faults = omega (arith, g.faults, rw (← e) at (faults_left d s place count judged h));
        first =
            first_or found.first _ _
            ∙ ap (λ (n : ℕ). unwrap_or found.first n) (sym (rw (← e) at (first_left d s place count judged h))) ∙ g.first;
      }
  turn h false e =
      record {
        most = omega (arith, g.most);
        named = g.named;
        faults = omega (arith, g.faults, rw (← e) at (faults_left d s place count judged h));
        first =
            ap (λ (n : ℕ). unwrap_or found.first n) (sym (rw (← e) at (first_left d s place count judged h))) ∙ g.first;
      }

  -- nothing is left
  pub ended : {blocks : ℕ} → judged ≡ count → count ≡ covered_of d place blocks → Stepped d s place blocks count found.faults (unwrap_or found.first 0)
  unfolding faults_from first_from
  ended h e =
      let last : count - judged ≡ 0 = omega arith in
      record { judged = e; faults = omega (arith, rw last at g.faults); first = rw last at g.first }

-- ---- a call: what its rules say, where they do not refuse
pub in_order : (d : Description) (n place : ℕ) → is_good (scrub_rules d n place) ≡ true → IsSegment d × (length_of d ≡ n) × (place ≤ d.count)
unfolding scrub_rules place_rule
in_order d n place e =
    let two = both_good (segment_rules d n) _ e in
    let fit = rules_segment d n two.0 in
    (fit.0, sym fit.1, ltb-false d.count place (not_refused _ _ two.1))

-- what the rules of a call answered, in order or not
module _ (d : Description) (s : List ℕ) (place blocks : ℕ) where
  pub call_fits : good ≡ scrub_rules d (length s) place → IsSegment d × (length_of d ≡ length s) × (place ≤ d.count)
  call_fits e = in_order d (length s) place (ap is_good (sym e))

  pub call_room : good ≡ scrub_rules d (length s) place → {count f x : ℕ} → Stepped d s place blocks count f x → place + count ≤ 65536
  call_room e w =
      let fits = call_fits e in
      omega (arith, w.judged, covered_most d place blocks fits.2, fits.0.count)

  pub call_refused : (e : Refusal) → Err e ≡ scrub_rules d (length s) place → refused (Err e) place ≡ scrubbed d s place blocks
  unfolding scrubbed
  call_refused e h = rw (← h) refl

  pub call_done : good ≡ scrub_rules d (length s) place → {count f x : ℕ} → Stepped d s place blocks count f x
      → record { answer = good; next = place + count; judged = count; faults = f; first = x } ≡ scrubbed d s place blocks
  unfolding scrubbed
  call_done e w = rw (← e, w.faults, w.first, w.judged) refl

-- ---- any two steps
pub steps_coincide : {d : Description} {s : List ℕ} {place blocks x y f g a b : ℕ} → Stepped d s place blocks x f a → Stepped d s place blocks y g b
    → (x ≡ y) × (f ≡ g) × (a ≡ b)
steps_coincide {d} {s} {place} p q =
    let same = p.judged ∙ sym q.judged in
    (same, p.faults ∙ ap (faults_from d s place) same ∙ sym q.faults, p.first ∙ ap (first_from d s place) same ∙ sym q.first)

some_none : (x : ℕ) → Some x ≡ None → ⊥
some_none x z = cc

-- what two of them have found is one: none names a first where there is no fault
pub found_coincide : (f g : Found) → f.faults ≡ g.faults → unwrap_or f.first 0 ≡ unwrap_or g.first 0 → Named f → Named g → f ≡ g
found_coincide f g e h p q = ap₂ (λ (n : ℕ) (o : Option ℕ). record { faults = n; first = o }) e (by f.first g.first refl refl h)
  where
    by : (o u : Option ℕ) → f.first ≡ o → g.first ≡ u → unwrap_or o 0 ≡ unwrap_or u 0 → o ≡ u
    by None None a b s = refl
    by None (Some y) a b s = absurd (some_none y (sym b ∙ q.1 (sym e ∙ p.0 a)))
    by (Some x) None a b s = absurd (some_none x (sym a ∙ p.1 (e ∙ q.0 b)))
    by (Some x) (Some y) a b s = ap Some s

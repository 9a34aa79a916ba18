-- What is asked of a scrub: the count of blocks judged is the distance moved; it covers the smaller of the number and the blocks left; two
-- steps are one, and any series of calls is one call; the first fault that is named is the first. Assumes nothing.
use mathlib.Core.Path.{◌≡◌, refl, sym, ap, ◌∙◌}
use mathlib.Core.Logic.{◌↔◌}
use mathlib.Core.Bool.{Bool, true, false, cond, true≢false}
use mathlib.Core.List.{List, [], ◌∷◌}
use Prim.Native.Nat.{ℕ, zero, suc, ◌+◌, ◌-◌, ◌≤◌, ◌<◌, zero-le}
use native.Mathlib.Nat.{add-zero, zero-add, add_assoc, suc-add}
use native.Mathlib.Omega.{arith}
use borrow.Author.Tests.{eqb-true, eqb-false, ne_eqb, le-ltb, leb-true, leb-false}
use lib.Dec.{eqb, leb}
use lib.ListN.{length}
use Rattle.answer.specs.Answer.{is_good, Answer}
use Rattle.answer.specs.Answer as answers
use Rattle.answer.proofs.Ladder.{both_good}
use Rattle.segment.specs.declared.Description.{Description}
use Rattle.segment.specs.Segment.{IsSegment, length_of}
use Rattle.segment.specs.Rules.{segment_rules}
use Rattle.segment.specs.Places.{place_rule}
use Rattle.segment.proofs.Rules.{described_rule, length_right}
use Rattle.scrub.specs.declared.Scrubbed.{Scrubbed}
use Rattle.scrub.specs.Scrub.{faulty_at, faults_from, first_from, covered_of, scrub_rules, after, refused, scrubbed}
use Rattle.scrub.proofs.Laws.{covered_all, covered_left, covered_most, in_order}
use Rattle.series.specs.Series.{total_of, nothing, followed_by, series_of, sum_of}
use Rattle.series.specs.Faults.{FirstFault}

less : (a b : ℕ) → a ≤ b → (b ≡ a → ⊥) → a < b
less a b h n = by (leb b a) refl
  where
    by : (c : Bool) → leb b a ≡ c → a < b
    by true e = absurd (n (omega (arith, leb-true b a e)))
    by false e = leb-false b a e

-- ---- a call, refused or not: "A refused call hands back the place it was given and zeros."
module _ (d : Description) (s : List ℕ) (place blocks : ℕ) where
  abbrev rules : Answer
  rules = scrub_rules d (length s) place

  pub call_good : is_good rules ≡ true → scrubbed d s place blocks ≡ after rules d s place (covered_of d place blocks)
  unfolding scrubbed
  call_good e = rw e refl

  pub call_refused : is_good rules ≡ false → scrubbed d s place blocks ≡ refused rules place
  unfolding scrubbed
  call_refused e = rw e refl

  -- what it hands back is of the blocks that it judged
  record Told (x : Scrubbed) : Type 0 where
    answer : x.answer ≡ rules
    next : x.next ≡ place + x.judged
    faults : x.faults ≡ faults_from d s place x.judged
    first : x.first ≡ first_from d s place x.judged

  told : Told (scrubbed d s place blocks)
  unfolding scrubbed faults_from first_from
  told = by (is_good rules)
    where
      by : (b : Bool) → Told (cond b (after rules d s place (covered_of d place blocks)) (refused rules place))
      by true = record { answer = refl; next = refl; faults = refl; first = refl }
      by false = record { answer = refl; next = sym (add-zero place); faults = refl; first = refl }

  -- "Refusals: 1, then 2, then 7 for a place above N."
  pub answer_is_the_rules : (scrubbed d s place blocks).answer ≡ scrub_rules d (length s) place
  answer_is_the_rules = told.answer

  -- "A refused call hands back the place it was given and zeros."
  pub refused_hands_back : is_good (scrubbed d s place blocks).answer ≡ false
      → total_of (scrubbed d s place blocks) ≡ nothing place
  refused_hands_back e = ap total_of (call_refused (sym (ap is_good answer_is_the_rules) ∙ e))

  -- good exactly where it is a segment of so many bytes and the place is not above N: a fault is no refusal
  pub good_exactly : ((scrubbed d s place blocks).answer ≡ answers.good) ↔ (IsSegment d × (length_of d ≡ length s) × (place ≤ d.count))
  unfolding scrub_rules place_rule
  good_exactly = (
    λ e. in_order d (length s) place (ap is_good (sym answer_is_the_rules ∙ e)),
    λ fits.
        answer_is_the_rules
        ∙ rw (length_right d (length s) (described_rule d fits.0) (sym fits.1), le-ltb d.count place fits.2) refl,
  )

  -- "The count of blocks judged equals the distance moved"
  pub count_is_the_distance : (scrubbed d s place blocks).next ≡ place + (scrubbed d s place blocks).judged
  count_is_the_distance = told.next

  -- "It covers exactly the smaller of that number and the blocks left."
  pub covers_the_smaller : (scrubbed d s place blocks).answer ≡ answers.good
      → (blocks ≤ d.count - place → (scrubbed d s place blocks).judged ≡ blocks)
      × (d.count - place ≤ blocks → (scrubbed d s place blocks).judged ≡ d.count - place)
  covers_the_smaller good =
      let e : is_good rules ≡ true = ap is_good (sym answer_is_the_rules ∙ good) in (
        λ h. ap (λ (x : Scrubbed). x.judged) (call_good e) ∙ covered_all d place blocks h,
        λ h. ap (λ (x : Scrubbed). x.judged) (call_good e) ∙ by (eqb blocks (d.count - place)) refl h,
      )
    where
      by : (b : Bool) → eqb blocks (d.count - place) ≡ b → d.count - place ≤ blocks → covered_of d place blocks ≡ d.count - place
      by true q h = let same = eqb-true blocks (d.count - place) q in covered_all d place blocks (omega (arith, same)) ∙ same
      by false q h =
          let differ = eqb-false blocks (d.count - place) q in
          covered_left d place blocks (less _ _ h differ)

-- "zero is allowed and moves nothing"
pub zero_moves_nothing : (d : Description) (s : List ℕ) (place : ℕ)
    → total_of (scrubbed d s place 0) ≡ nothing place
unfolding scrubbed faults_from first_from
zero_moves_nothing d s place = rw (covered_all d place 0 zero-le) (by (is_good (rules d s place 0)))
  where
    by : (b : Bool) → total_of (cond b (after (rules d s place 0) d s place 0) (refused (rules d s place 0) place)) ≡ nothing place
    by true = rw (add-zero place) refl
    by false = refl

-- ---- blocks in two runs
module _ (d : Description) (s : List ℕ) where
  faults_two : (k m at : ℕ) → faults_from d s at (k + m) ≡ faults_from d s at k + faults_from d s (at + k) m
  unfolding faults_from
  faults_two zero m at = rw (zero-add, zero-add, add-zero) refl
  faults_two (suc k) m at =
      let on : at + 1 + k ≡ at + suc k = omega arith in
      rw (suc-add, add_assoc, ← on, faults_two k m (at + 1)) refl

  first_two : (k m at : ℕ) → first_from d s at (k + m) ≡ cond (eqb (faults_from d s at k) 0) (first_from d s (at + k) m) (first_from d s at k)
  unfolding faults_from first_from
  first_two zero m at = rw (zero-add, add-zero) refl
  first_two (suc k) m at = rw suc-add (by (faulty_at d s at) (first_two k m (at + 1)))
    where
      by : (b : Bool) → first_from d s (at + 1) (k + m) ≡ cond (eqb (faults_from d s (at + 1) k) 0) (first_from d s (at + 1 + k) m) (first_from d s (at + 1) k)
          → cond b (d.first + at) (first_from d s (at + 1) (k + m))
          ≡ cond (eqb (cond b 1 0 + faults_from d s (at + 1) k) 0) (first_from d s (at + suc k) m) (cond b (d.first + at) (first_from d s (at + 1) k))
      by true behind =
          let more : 1 + faults_from d s (at + 1) k ≡ 0 → ⊥ = λ e. omega arith in
          rw (ne_eqb (1 + faults_from d s (at + 1) k) 0 more) refl
      by false behind = let on : at + 1 + k ≡ at + suc k = omega arith in rw (zero-add, ← on) behind

-- how many two steps cover
covered_two : (d : Description) (place m n : ℕ) → place ≤ d.count
    → covered_of d place (m + n) ≡ covered_of d place m + covered_of d (place + covered_of d place m) n
covered_two d place m n h = by (leb m (d.count - place)) (leb n (d.count - (place + covered_of d place m))) refl refl
  where
    by : (a b : Bool) → leb m (d.count - place) ≡ a → leb n (d.count - (place + covered_of d place m)) ≡ b
        → covered_of d place (m + n) ≡ covered_of d place m + covered_of d (place + covered_of d place m) n
    by true b e f =
        let one = covered_all d place m (leb-true m (d.count - place) e) in
        rw one (behind b (rw one at f))
      where
        behind : (b : Bool) → leb n (d.count - (place + m)) ≡ b → covered_of d place (m + n) ≡ m + covered_of d (place + m) n
        behind true f =
            let few = leb-true n (d.count - (place + m)) f in
            let fits = leb-true m (d.count - place) e in
            covered_all d place (m + n) (omega arith) ∙ ap (λ (x : ℕ). m + x) (sym (covered_all d (place + m) n few))
        behind false f =
            let many = leb-false n (d.count - (place + m)) f in
            let fits = leb-true m (d.count - place) e in
            covered_left d place (m + n) (omega arith)
            ∙ (let all : d.count - place ≡ m + (d.count - (place + m)) = omega arith in all)
            ∙ ap (λ (x : ℕ). m + x) (sym (covered_left d (place + m) n many))
    by false b e f =
        let many = leb-false m (d.count - place) e in
        let one = covered_left d place m many in
        let whole : place + (d.count - place) ≡ d.count = omega arith in
        rw (one, whole)
        (covered_left d place (m + n) (omega arith) ∙ omega (arith, behind))
      where
        behind : covered_of d d.count n ≡ 0
        behind = omega (arith, covered_most d d.count n (omega arith))

-- ---- two calls, the second from where the first stopped, are one over the sum, refused or not
module _ (d : Description) (s : List ℕ) (place m n : ℕ) where
  -- the rules of a place that a call in order came to
  rules_there : is_good (rules d s place m) ≡ true → scrub_rules d (length s) (place + covered_of d place m) ≡ rules d s place m
  unfolding scrub_rules place_rule
  rules_there e =
      let two = both_good (segment_rules d (length s)) _ e in
      let fits = in_order d (length s) place e in
      let there = le-ltb d.count (place + covered_of d place m) (covered_most d place m fits.2) in
      let here = le-ltb d.count place fits.2 in
      rw (there, here) refl

  two_good : is_good (rules d s place m) ≡ true
      → total_of (scrubbed d s place (m + n)) ≡ followed_by (scrubbed d s place m) (total_of (scrubbed d s (scrubbed d s place m).next n))
  two_good e =
      let k = covered_of d place m in
      let j = covered_of d (place + k) n in
      let there : is_good (rules d s (place + k) n) ≡ true = rw (rules_there e) e in
      let fits = in_order d (length s) place e in
      rw (call_good d s place (m + n) e, call_good d s place m e, call_good d s (place + k) n there, covered_two d place m n fits.2, faults_two d s k j place, first_two d s k j place, add_assoc place k j)
      refl

  two_refused : is_good (rules d s place m) ≡ false
      → total_of (scrubbed d s place (m + n)) ≡ followed_by (scrubbed d s place m) (total_of (scrubbed d s (scrubbed d s place m).next n))
  two_refused e = rw (call_refused d s place (m + n) e, call_refused d s place m e, call_refused d s place n e) refl

  pub two_are_one : total_of (scrubbed d s place (m + n)) ≡ followed_by (scrubbed d s place m) (total_of (scrubbed d s (scrubbed d s place m).next n))
  two_are_one = by (is_good (rules d s place m)) refl
    where
      by : (b : Bool) → is_good (rules d s place m) ≡ b
          → total_of (scrubbed d s place (m + n)) ≡ followed_by (scrubbed d s place m) (total_of (scrubbed d s (scrubbed d s place m).next n))
      by true e = two_good e
      by false e = two_refused e

  -- and they are answered alike
  pub answered_alike : (scrubbed d s (scrubbed d s place m).next n).answer ≡ (scrubbed d s place m).answer
  answered_alike = by (is_good (rules d s place m)) refl
    where
      by : (b : Bool) → is_good (rules d s place m) ≡ b → (scrubbed d s (scrubbed d s place m).next n).answer ≡ (scrubbed d s place m).answer
      by true e = rw (call_good d s place m e) (answer_is_the_rules d s (place + covered_of d place m) n ∙ rules_there e)
      by false e = rw (call_refused d s place m e) (answer_is_the_rules d s place n)

-- ---- a series of calls is one call over the sum, from any place on
pub series_is_one : (d : Description) (s : List ℕ) (place : ℕ) (ms : List ℕ) → series_of d s place ms ≡ total_of (scrubbed d s place (sum_of ms))
unfolding series_of sum_of
series_is_one d s place [] = sym (zero_moves_nothing d s place)
series_is_one d s place (m ∷ ms) =
    ap (followed_by (scrubbed d s place m)) (series_is_one d s (scrubbed d s place m).next ms) ∙ sym (two_are_one d s place m (sum_of ms))

-- "any series of calls from place 0 to the end .. gives the same total and first fault as one call over all"
pub series_to_the_end : (d : Description) (s : List ℕ) (ms : List ℕ) → (series_of d s 0 ms).next ≡ d.count → series_of d s 0 ms ≡ total_of (scrubbed d s 0 d.count)
series_to_the_end d s ms end =
    series_is_one d s 0 ms ∙ by (is_good (rules d s 0 (sum_of ms))) refl (rw (series_is_one d s 0 ms) at end)
  where
    by : (b : Bool) → is_good (rules d s 0 (sum_of ms)) ≡ b → (scrubbed d s 0 (sum_of ms)).next ≡ d.count
        → total_of (scrubbed d s 0 (sum_of ms)) ≡ total_of (scrubbed d s 0 d.count)
    by true e f =
        let there = rw (call_good d s 0 (sum_of ms) e) at f in
        let all : covered_of d 0 (sum_of ms) ≡ covered_of d 0 d.count = omega (arith, there, covered_all d 0 d.count (omega arith)) in
        rw (call_good d s 0 (sum_of ms) e, call_good d s 0 d.count e, all) refl
    by false e f = rw (call_refused d s 0 (sum_of ms) e, call_refused d s 0 d.count e) refl

-- ---- which blocks have a fault
module _ (d : Description) (s : List ℕ) where
  none_exactly : (k at : ℕ) → (faults_from d s at k ≡ 0) ↔ ((j : ℕ) → at ≤ j → j < at + k → faulty_at d s j ≡ false)
  unfolding faults_from
  none_exactly zero at = (λ e j h l. absurd (omega arith), λ each. refl)
  none_exactly (suc k) at = by (faulty_at d s at) refl (none_exactly k (at + 1))
    where
      by : (b : Bool) → faulty_at d s at ≡ b → (faults_from d s (at + 1) k ≡ 0) ↔ ((j : ℕ) → at + 1 ≤ j → j < at + 1 + k → faulty_at d s j ≡ false)
          → (cond b 1 0 + faults_from d s (at + 1) k ≡ 0) ↔ ((j : ℕ) → at ≤ j → j < at + suc k → faulty_at d s j ≡ false)
      by true e behind = (λ z. absurd (omega arith), λ each. absurd (true≢false (sym e ∙ each at (omega arith) (omega arith))))
      by false e behind = (
        λ z j h l. at_or (eqb j at) j refl h l (behind.0 (sym (zero-add _) ∙ z)),
        λ each. zero-add _ ∙ behind.1 (λ j h l. each j (omega arith) (omega arith)),
      )
        where
          at_or : (c : Bool) (j : ℕ) → eqb j at ≡ c → at ≤ j → j < at + suc k → ((i : ℕ) → at + 1 ≤ i → i < at + 1 + k → faulty_at d s i ≡ false) → faulty_at d s j ≡ false
          at_or true j q h l each = rw (eqb-true j at q) e
          at_or false j q h l each = each j (omega (arith, less at j h (eqb-false j at q))) (omega arith)

  none_named : (k at : ℕ) → faults_from d s at k ≡ 0 → first_from d s at k ≡ 0
  unfolding faults_from first_from
  none_named zero at e = refl
  none_named (suc k) at e = by (faulty_at d s at) e (none_named k (at + 1))
    where
      by : (b : Bool) → cond b 1 0 + faults_from d s (at + 1) k ≡ 0 → (faults_from d s (at + 1) k ≡ 0 → first_from d s (at + 1) k ≡ 0)
          → cond b (d.first + at) (first_from d s (at + 1) k) ≡ 0
      by true z behind = absurd (omega arith)
      by false z behind = behind (sym (zero-add _) ∙ z)

  first_found : (k at : ℕ) → 0 < faults_from d s at k → FirstFault d s at (at + k) (first_from d s at k)
  unfolding faults_from first_from
  first_found zero at h = absurd (omega arith)
  first_found (suc k) at h = by (faulty_at d s at) refl h (first_found k (at + 1))
    where
      by : (b : Bool) → faulty_at d s at ≡ b → 0 < cond b 1 0 + faults_from d s (at + 1) k
          → (0 < faults_from d s (at + 1) k → FirstFault d s (at + 1) (at + 1 + k) (first_from d s (at + 1) k))
          → FirstFault d s at (at + suc k) (cond b (d.first + at) (first_from d s (at + 1) k))
      by true e z behind =
          record { at = at; from = omega arith; within = omega arith; here = e; earlier = λ j f l. absurd (omega arith); named = refl }
      by false e z behind =
          let f = behind (omega arith) in
          record {
            at = f.at;
            from = omega (arith, f.from);
            within = omega (arith, f.within);
            here = f.here;
            earlier = λ j g l. before (eqb j at) j refl g f l;
            named = f.named;
          }
        where
          before : (c : Bool) (j : ℕ) → eqb j at ≡ c → at ≤ j → {x : ℕ} (f : FirstFault d s (at + 1) (at + 1 + k) x) → j < f.at → faulty_at d s j ≡ false
          before true j q g f l = rw (eqb-true j at q) e
          before false j q g f l = f.earlier j (omega (arith, less at j g (eqb-false j at q))) l

  faults_few : (k at : ℕ) → faults_from d s at k ≤ k
  unfolding faults_from
  faults_few zero at = zero-le
  faults_few (suc k) at = by (faulty_at d s at) (faults_few k (at + 1))
    where
      by : (b : Bool) → faults_from d s (at + 1) k ≤ k → cond b 1 0 + faults_from d s (at + 1) k ≤ suc k
      by true h = omega arith
      by false h = omega arith

module _ (d : Description) (s : List ℕ) (place blocks : ℕ) where
  abbrev call : Scrubbed
  call = scrubbed d s place blocks

  -- no more blocks have a fault than were judged
  pub faults_at_most_judged : call.faults ≤ call.judged
  faults_at_most_judged = rw (told d s place blocks).faults (faults_few d s call.judged place)

  -- none has a fault exactly where each block from the place on to the new one is right
  pub none_has_exactly : (call.faults ≡ 0) ↔ ((j : ℕ) → place ≤ j → j < call.next → faulty_at d s j ≡ false)
  none_has_exactly =
      rw ((told d s place blocks).faults, (told d s place blocks).next) (none_exactly d s call.judged place)

  -- "the address of the first, or 0 where none had"
  pub none_names_zero : call.faults ≡ 0 → call.first ≡ 0
  none_names_zero e = (told d s place blocks).first ∙ none_named d s call.judged place (sym (told d s place blocks).faults ∙ e)

  pub first_is_the_first : 0 < call.faults → FirstFault d s place call.next call.first
  first_is_the_first h =
      rw ((told d s place blocks).first, (told d s place blocks).next)
      (first_found d s call.judged place (rw (told d s place blocks).faults at h))

-- Whether a block is good depends of a place on nothing but the tag, and on that only where it is checked.
-- Assumes nothing.
use Rattle.std.proofs.Common.{◌≡◌, ℕ, zero, suc, ◌+◌, ◌%◌, ◌^◌, Bool, true, false, cond, not, ◌&&◌, eqb, List, drop, sym, refl, ap, ◌∙◌, ap₂}
use Rattle.answer.specs.Answer as answers
use Rattle.answer.specs.Answer.{is_good}
use Rattle.answer.proofs.Ladder.{good_of_both}
use Rattle.field.specs.Field.{data_of, field_of, stored_reference}
use Rattle.interval.specs.declared.Rules.{Rules}
use Rattle.interval.specs.declared.Place.{Place}
use Rattle.interval.specs.Interval.{any_escapes, guard_wrong, application_wrong, reference_wrong, judge_pieces, judge_interval}
use Rattle.interval.proofs.PieceLaws.{in_turn}
use Rattle.judge.specs.FirstOf.{first_of}
use Rattle.judge.specs.Judge.{judge_intervals, judge_block, next_interval}

-- the same tag is expected, where any is
abbrev pub SameTag : Rules → Place → Place → Type 0
SameTag r p q = r.reference ≡ true → p.tag ≡ q.tag

module _ (r : Rules) where
  reference_alike : (p q : Place) (f : List ℕ) → SameTag r p q → reference_wrong r p f ≡ reference_wrong r q f
  unfolding reference_wrong
  reference_alike p q f same = by r.reference same
    where
      by : (b : Bool) → (b ≡ true → p.tag ≡ q.tag) → (b && not (eqb (stored_reference f) p.tag)) ≡ (b && not (eqb (stored_reference f) q.tag))
      by true e = ap (λ (t : ℕ). not (eqb (stored_reference f) t)) (e refl)
      by false e = refl

  turn_alike : (p q : Place) (g a f : Bool) → is_good (in_turn p g a f) ≡ is_good (in_turn q g a f)
  turn_alike p q true a f = refl
  turn_alike p q false true f = refl
  turn_alike p q false false true = refl
  turn_alike p q false false false = refl

  interval_alike : (p q : Place) (s : List ℕ) → SameTag r p q → is_good (judge_interval r p s) ≡ is_good (judge_interval r q s)
  unfolding judge_interval judge_pieces
  interval_alike p q s same =
      let f = field_of r.size s in
      rw (reference_alike p q f same) (turn_alike p q (guard_wrong r (data_of r.size s) f) (application_wrong r f) (reference_wrong r q f))

  intervals_alike : (k : ℕ) (p q : Place) (s : List ℕ) → SameTag r p q
      → is_good (first_of (judge_interval r) next_interval (r.size + 8) k p s) ≡ is_good (first_of (judge_interval r) next_interval (r.size + 8) k q s)
  unfolding first_of
  intervals_alike zero p q s same = refl
  intervals_alike (suc k) p q s same =
      let on = drop (r.size + 8) s in
      good_of_both (judge_interval r p s) (first_of (judge_interval r) next_interval (r.size + 8) k (next_interval p) on)
      ∙ ap₂ ◌&&◌ (interval_alike p q s same) (intervals_alike k (next_interval p) (next_interval q) on (λ e. ap (λ (t : ℕ). (t + 1) % 2 ^ 32) (same e)))
      ∙ sym (good_of_both (judge_interval r q s) (first_of (judge_interval r) next_interval (r.size + 8) k (next_interval q) on))

  pub block_alike : (p q : Place) (s : List ℕ) → SameTag r p q → is_good (judge_block r p s) ≡ is_good (judge_block r q s)
  unfolding judge_block judge_intervals
  block_alike p q s same = by (any_escapes r.escape r.size r.intervals s)
    where
      by : (b : Bool) → is_good (cond b answers.good (first_of (judge_interval r) next_interval (r.size + 8) r.intervals p s))
          ≡ is_good (cond b answers.good (first_of (judge_interval r) next_interval (r.size + 8) r.intervals q s))
      by true = refl
      by false = intervals_alike r.intervals p q s same

-- Whether a block has a fault: what is asked of its intervals, where its bytes lie, which tag is expected.
-- Assumes nothing.
use mathlib.Core.Path.{◌≡◌, refl, sym, ap, ◌∙◌}
use mathlib.Core.Bool.{Bool, true, false, not, ◌&&◌, ◌||◌, true≢false}
use mathlib.Core.List.{List}
use Prim.Native.Nat.{ℕ, suc, ◌+◌, ◌*◌, ◌^◌, ◌≤◌, ◌<◌}
use native.Mathlib.Nat.{mod-add-mod, mul-le-mul_right, suc-mul}
use native.Mathlib.Omega.{arith}
use borrow.Author.Tests.{eq-eqb, ne_eqb, eqb-true}
use lib.Dec.{eqb}
use lib.ListN.{length, take, drop}
use Rattle.answer.specs.Answer.{Answer, is_good}
use Rattle.segment.specs.declared.Description.{Description}
use Rattle.segment.specs.Segment.{IsSegment, intervals_of, stored_of, length_of}
use Rattle.segment.specs.Places.{block_at}
use Rattle.segment.proofs.Laws.{stored_intervals}
use Rattle.segment.proofs.Places.{span_few}
use Rattle.command.specs.declared.Operation.TheVariants.{Read}
use Rattle.command.specs.Sixteen.{sixteen}
use Rattle.interval.specs.declared.Rules.{Rules}
use Rattle.judge.specs.Judge.{judge_block}
use Rattle.judge.proofs.BlockLaws.{own_block}
use Rattle.judge.proofs.Alike.{SameTag}
use Rattle.sides.specs.declared.Side.TheVariants.{Stored}
use Rattle.rules.specs.Rules.{columns_of, application_known, reference_known, first_tag, rules_of, start_of}
use Rattle.rules.specs.Intervals.{place_at}
use Rattle.rules.specs.ReadAll.{read_all}
use Rattle.scrub.specs.Scrub.{faulty_at}

-- ---- type 0 has no fault, the others are judged
pub fault_plain : (d : Description) (s : List ℕ) (at : ℕ) → d.kind ≡ 0 → faulty_at d s at ≡ false
unfolding faulty_at
fault_plain d s at k = rw (eq-eqb d.kind 0 k)

pub fault_judged : (d : Description) (s : List ℕ) (at : ℕ) → (d.kind ≡ 0 → ⊥)
    → faulty_at d s at ≡ not (is_good (judge_block (rules_of Stored d (read_all d)) (place_at d (read_all d) at 0) (block_at d s at)))
unfolding faulty_at
fault_judged d s at n = rw (ne_eqb d.kind 0 n)

-- ---- what is asked: the guard always, the application tag never, the reference tag in type 1
module _ (d : Description) where
  abbrev asked : Rules
  asked = rules_of Stored d (read_all d)

  pub guard_asked : asked.guard ≡ true
  unfolding rules_of sixteen columns_of
  guard_asked = refl

  pub application_not : asked.application ≡ false
  unfolding rules_of sixteen columns_of application_known
  application_not = refl

  pub reference_asked : asked.reference ≡ true → d.kind ≡ 1
  unfolding rules_of sixteen columns_of reference_known
  reference_asked e = by (eqb d.kind 1) (eqb d.kind 2) refl e
    where
      by : (a b : Bool) → eqb d.kind 1 ≡ a → (a || (b && false)) ≡ true → d.kind ≡ 1
      by true b q f = eqb-true d.kind 1 q
      by false true q f = absurd (true≢false (sym f))
      by false false q f = absurd (true≢false (sym f))

  module _ (g : IsSegment d) where
    pub one_interval : d.kind ≡ 1 → intervals_of d ≡ 1
    unfolding intervals_of
    one_interval k = ap (λ (e : ℕ). 2 ^ e) (g.plain (omega (arith, k)))

    -- a READ of one block expects of it the tag of its place in the segment, where any is
    pub own_tag : (at : ℕ) → SameTag asked (start_of d (sixteen Read (d.first + at) 1)) (place_at d (read_all d) at 0)
    unfolding sixteen start_of first_tag
    own_tag at e =
        let k = reference_asked e in
        let there : at * 1 + 0 ≡ at = omega arith in
        rw (eq-eqb d.kind 1 k, one_interval k, there) (sym (mod-add-mod d.first (2 ^ 32) at))

    -- ---- its bytes, cut out of the segment's
    pub fault_cut : (s : List ℕ) (at : ℕ) → (d.kind ≡ 0 → ⊥)
        → faulty_at d s at ≡ not (is_good (judge_block asked (place_at d (read_all d) at 0) (take (stored_of d) (drop (at * stored_of d) s))))
    unfolding rules_of
    fault_cut s at n =
        fault_judged d s at n
        ∙ rw (stored_intervals d g n)
        (ap (λ (a : Answer). not (is_good a)) (sym (own_block asked (place_at d (read_all d) at 0) (block_at d s at))))

    module _ (at : ℕ) (h : at < d.count) where
      pub block_few : at * stored_of d + stored_of d ≤ 65536 * 4160
      block_few = rw (← suc-mul at (stored_of d)) (span_few d (suc at) g (omega (arith, g.count)))

      pub block_within : (s : List ℕ) → length_of d ≡ length s → at * stored_of d + stored_of d ≤ length s
      unfolding length_of
      block_within s long = rw (← long, ← suc-mul at (stored_of d)) (mul-le-mul_right (stored_of d) (omega arith))

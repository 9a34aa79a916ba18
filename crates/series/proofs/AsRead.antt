-- None of some blocks has a fault exactly where a READ of them, judged by what code 001 of 16 bytes checks, has no wrong interval.
-- Assumes nothing.
use mathlib.Core.Path.{◌≡◌, refl, sym, ap, ◌∙◌}
use mathlib.Core.Logic.{◌↔◌}
use mathlib.Core.Bool.{Bool, true, false, not}
use mathlib.Core.List.{List}
use Prim.Native.Nat.{ℕ, ◌+◌, ◌*◌, ◌-◌, ◌%◌, ◌^◌, ◌<◌}
use native.Mathlib.Nat.{add_assoc, add-mul, mod-add-mod}
use native.Mathlib.Omega.{arith}
use borrow.Author.Tests.{eq-eqb, eqb-true, eqb-false, not-false}
use lib.Dec.{eqb, lit<}
use lib.ListN.{take, drop}
use lib.Seq.{drop-drop}
use Rattle.words.proofs.Turns.{after, piece_at}
use Rattle.answer.specs.Answer.{is_good, Answer}
use Rattle.answer.specs.Answer as answers
use Rattle.answer.proofs.Ladder.{good_is}
use Rattle.segment.specs.declared.Description.{Description}
use Rattle.segment.specs.Segment.{IsSegment, intervals_of, size_of}
use Rattle.segment.specs.Places.{offset_of, span_of, blocks_from, block_at}
use Rattle.segment.proofs.Laws.{stored_intervals}
use Rattle.segment.proofs.Places.{span_intervals}
use Rattle.command.specs.declared.Command.{Command}
use Rattle.command.specs.declared.Operation.TheVariants.{Read}
use Rattle.command.specs.Sixteen.{sixteen}
use Rattle.interval.specs.declared.Place.{Place}
use Rattle.judge.specs.FirstOf.{first_of}
use Rattle.judge.specs.Judge.{judge_block, judge_blocks, next_block}
use Rattle.judge.proofs.FirstLaws.{own_bytes, first_good}
use Rattle.judge.proofs.BlockLaws.{own_block}
use Rattle.judge.proofs.Alike.{SameTag, block_alike}
use Rattle.sides.specs.declared.Side.TheVariants.{Stored}
use Rattle.sides.specs.Sides.{checked_on}
use Rattle.rules.specs.Rules.{columns_of, application_known, reference_known, first_tag, rules_of, start_of}
use Rattle.rules.specs.Intervals.{place_at}
use Rattle.rules.specs.ReadAll.{read_all}
use Rattle.rules.proofs.Places.{tag_small, block_place}
use Rattle.transfer.specs.Transfer.{blocks_of, judged_on}
use Rattle.transfer.proofs.Shapes.{judged_none, judged_all}
use Rattle.scrub.specs.Scrub.{faulty_at}
use Rattle.scrub.proofs.Judging.{fault_plain, fault_judged, reference_asked, one_interval}

module _ (d : Description) (s : List ℕ) (at count : ℕ) where
  abbrev read : Command
  read = sixteen Read (d.first + at) count

  abbrev judged : Answer
  judged = judged_on Stored d read (blocks_of d read s)

  -- the blocks are cut out of the segment's bytes
  its_blocks : blocks_of d read s ≡ take (span_of d count) (drop (offset_of d (d.first + at)) s)
  unfolding blocks_of blocks_from sixteen
  its_blocks = refl

  -- type 0 is not judged
  judged_plain : d.kind ≡ 0 → judged ≡ answers.good
  unfolding checked_on
  judged_plain k = judged_none Stored d read (blocks_of d read s) (rw (eq-eqb d.kind 0 k) refl)

  -- ---- the others are, each block as it stands in the segment
  module _ (g : IsSegment d) (n : d.kind ≡ 0 → ⊥) where
    abbrev stride : ℕ
    stride = intervals_of d * (size_of d + 8)

    abbrev judging : Place → List ℕ → Answer
    judging = judge_block (rules_of Stored d (read_all d))

    begins : drop (offset_of d (d.first + at)) s ≡ block_at d s at
    unfolding offset_of
    begins =
        let on : d.first + at - d.first ≡ at = omega arith in
        rw (on, stored_intervals d g n) refl

    -- as one run
    judged_is : judged ≡ first_of judging (next_block (intervals_of d)) stride count (start_of d read) (block_at d s at)
    unfolding judge_blocks rules_of sixteen columns_of application_known reference_known
    judged_is =
        judged_all Stored d read (blocks_of d read s) n refl
        ∙ rw (its_blocks, ← span_intervals d g count n, begins)
        (own_bytes judging (next_block (intervals_of d)) stride (own_block (rules_of Stored d (read_all d))) count (start_of d read) (block_at d s at))

    -- the tag expected at a block is that of its place in the segment, where any is
    abbrev reached : ℕ → Place
    reached j = after (next_block (intervals_of d)) j (start_of d read)

    small : first_tag d read < 2 ^ 32
    unfolding sixteen
    small = tag_small d read (lit< tt)

    same_tag : (j : ℕ) → SameTag (rules_of Stored d (read_all d)) (reached j) (place_at d (read_all d) (at + j) 0)
    unfolding sixteen first_tag
    same_tag j e =
        let k = reference_asked d e in
        let here : j * 1 + 0 ≡ j = omega arith in
        let there : (at + j) * 1 + 0 ≡ at + j = omega arith in
        ap (λ (p : Place). p.tag) (block_place d read small j)
        ∙ rw (eq-eqb d.kind 1 k, one_interval d g k, here, there)
        (mod-add-mod (d.first + at) (2 ^ 32) j ∙ ap (λ (t : ℕ). t % 2 ^ 32) (add_assoc d.first at j) ∙ sym (mod-add-mod d.first (2 ^ 32) (at + j)))

    abbrev piece : ℕ → Answer
    piece j = piece_at judging (next_block (intervals_of d)) stride (start_of d read) (block_at d s at) j

    piece_fault : (j : ℕ) → faulty_at d s (at + j) ≡ not (is_good (piece j))
    piece_fault j =
        let there : drop (j * stride) (drop (at * stride) s) ≡ drop ((at + j) * stride) s = drop-drop (j * stride) (at * stride) s ∙ rw (← add-mul at j stride) refl in
        fault_judged d s (at + j) n
        ∙ ap not (sym (block_alike (rules_of Stored d (read_all d)) (reached j) (place_at d (read_all d) (at + j) 0) (block_at d s (at + j)) (same_tag j)))
        ∙ ap (λ (l : List ℕ). not (is_good (judging (reached j) l))) (sym there)

    right_exactly : (judged ≡ answers.good) ↔ ((j : ℕ) → j < count → faulty_at d s (at + j) ≡ false)
    right_exactly =
        let each = first_good judging (next_block (intervals_of d)) stride count (start_of d read) (block_at d s at) in (
          λ e j h. piece_fault j ∙ ap (λ (a : Answer). not (is_good a)) (each.0 (sym judged_is ∙ e) j h),
          λ right. judged_is ∙ each.1 (λ j h. good_is (piece j) (not-false _ (sym (piece_fault j) ∙ right j h))),
        )

pub none_faulty_as_read : (d : Description) (s : List ℕ) (at count : ℕ) → IsSegment d
    → let read = sixteen Read (d.first + at) count in
    (judged_on Stored d read (blocks_of d read s) ≡ answers.good) ↔ ((j : ℕ) → j < count → faulty_at d s (at + j) ≡ false)
none_faulty_as_read d s at count g = by (eqb d.kind 0) refl
  where
    by : (b : Bool) → eqb d.kind 0 ≡ b → (judged d s at count ≡ answers.good) ↔ ((j : ℕ) → j < count → faulty_at d s (at + j) ≡ false)
    by true e = let k = eqb-true d.kind 0 e in (λ f j h. fault_plain d s (at + j) k, λ right. judged_plain d s at count k)
    by false e = right_exactly d s at count g (eqb-false d.kind 0 e)

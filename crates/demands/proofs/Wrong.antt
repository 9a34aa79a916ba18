-- "then intervals in order, and in one interval guard, application, reference": which interval the answer names.
-- Assumes nothing.
use mathlib.Core.Path.{◌≡◌, refl, sym, ap, ◌∙◌}
use mathlib.Core.Logic.{◌↔◌}
use mathlib.Core.Bool.{Bool, true, false, cond, true≢false}
use mathlib.Core.List.{List}
use Prim.Native.Nat.{ℕ, ◌+◌, ◌*◌, ◌^◌, ◌<◌}
use lib.Dec.{lit≤}
use Rattle.answer.specs.Answer.{is_good, Answer}
use Rattle.answer.specs.Answer as answers
use Rattle.segment.specs.declared.Description.{Description}
use Rattle.segment.specs.Segment.{intervals_of, size_of}
use Rattle.segment.specs.Places.{block_at, interval_at}
use Rattle.command.specs.declared.Command.{Command}
use Rattle.interval.specs.declared.Rules.{Rules}
use Rattle.interval.specs.declared.Place.{Place}
use Rattle.interval.specs.Verdict.{Verdict}
use Rattle.field.specs.Field.{data_of, field_of}
use Rattle.interval.specs.Interval.{guard_wrong, application_wrong, reference_wrong, judge_pieces, judge_interval}
use Rattle.words.proofs.Turns.{after, piece_at}
use Rattle.interval.proofs.PieceLaws.{pieces_verdict, in_turn}
use Rattle.judge.specs.FirstOf.{first_of}
use Rattle.judge.specs.Judge.{judge_intervals, judge_block, judge_blocks, next_interval, next_block}
use Rattle.answer.proofs.Ladder.{not_both}
use Rattle.judge.proofs.FirstLaws.{first_good, first_found, FirstWrong}
use Rattle.sides.specs.declared.Side.{Side}
use Rattle.sides.specs.Sides.{checked_on}
use Rattle.rules.specs.Rules.{rules_of, start_of, first_tag}
use Rattle.rules.specs.Intervals.{place_at, skipped, verdict_at}
use Rattle.rules.proofs.Places.{place_is}
use Rattle.transfer.specs.Transfer.{judged_on}
use Rattle.demands.specs.Checked.{Names, FirstWrongInterval}

-- ---- one interval
names : (p : Place) (g a f : Bool) → is_good (in_turn p g a f) ≡ false → Names p (in_turn p g a f)
names p true a f w = record { least = lit≤ tt; most = lit≤ tt; address = refl; place = refl }
names p false true f w = record { least = lit≤ tt; most = lit≤ tt; address = refl; place = refl }
names p false false true w = record { least = lit≤ tt; most = lit≤ tt; address = refl; place = refl }
names p false false false w = absurd (true≢false w)

interval_names : (r : Rules) (p : Place) (s : List ℕ) → is_good (judge_interval r p s) ≡ false → Names p (judge_interval r p s)
unfolding judge_interval judge_pieces
interval_names r p s =
    let f = field_of r.size s in
    names p (guard_wrong r (data_of r.size s) f) (application_wrong r f) (reference_wrong r p f)

-- each answer is given exactly when its field is the first wrong one
pub interval_verdict : (r : Rules) (p : Place) (s : List ℕ)
    → Verdict (guard_wrong r (data_of r.size s) (field_of r.size s)) (application_wrong r (field_of r.size s)) (reference_wrong r p (field_of r.size s))
    p.address p.interval (judge_interval r p s)
unfolding judge_interval
interval_verdict r p s = pieces_verdict r p (data_of r.size s) (field_of r.size s)

-- ---- all intervals
module _ (side : Side) (d : Description) (c : Command) (s : List ℕ) (small : first_tag d c < 2 ^ 32) where
  -- where judging stands at a block
  abbrev reached : ℕ → Place
  reached j = after (next_block (intervals_of d)) j (start_of d c)

  piece_is : (j i : ℕ) → piece_at (judge_interval (rules_of side d c)) next_interval (size_of d + 8) (reached j) (block_at d s j) i
      ≡ judge_interval (rules_of side d c) (place_at d c j i) (interval_at d s j i)
  piece_is j i = ap (λ (p : Place). judge_interval (rules_of side d c) p (interval_at d s j i)) (place_is d c small j i)

  abbrev in_block : ℕ → Answer
  in_block j = first_of (judge_interval (rules_of side d c)) next_interval (size_of d + 8) (intervals_of d) (reached j) (block_at d s j)

  block_is : (j : ℕ) → judge_block (rules_of side d c) (reached j) (block_at d s j) ≡ cond (skipped side d c s j) answers.good (in_block j)
  unfolding judge_block judge_intervals rules_of
  block_is j = refl

  block_good : (j : ℕ) → (judge_block (rules_of side d c) (reached j) (block_at d s j) ≡ answers.good) ↔ ((i : ℕ) → i < intervals_of d → verdict_at side d c s j i ≡ answers.good)
  block_good j = rw block_is (by (skipped side d c s j))
    where
      all : (in_block j ≡ answers.good) ↔ ((i : ℕ) → i < intervals_of d → piece_at (judge_interval (rules_of side d c)) next_interval (size_of d + 8) (reached j) (block_at d s j) i ≡ answers.good)
      all = first_good (judge_interval (rules_of side d c)) next_interval (size_of d + 8) (intervals_of d) (reached j) (block_at d s j)

      by : (b : Bool) → (cond b answers.good (in_block j) ≡ answers.good)
          ↔ ((i : ℕ) → i < intervals_of d → cond b answers.good (judge_interval (rules_of side d c) (place_at d c j i) (interval_at d s j i)) ≡ answers.good)
      by true = (λ e i h. refl, λ f. refl)
      by false = (λ e i h. sym (piece_is j i) ∙ all.0 e i h, λ f. all.1 (λ i h. piece_is j i ∙ f i h))

  abbrev in_blocks : ℕ → Answer
  in_blocks k = first_of (judge_block (rules_of side d c)) (next_block (intervals_of d)) (intervals_of d * (size_of d + 8)) k (start_of d c) s

  blocks_are : (k : ℕ) → judge_blocks (rules_of side d c) k (start_of d c) s ≡ in_blocks k
  unfolding judge_blocks rules_of
  blocks_are k = refl

  -- k blocks are good exactly when each of their intervals is right
  pub blocks_good : (k : ℕ) → (judge_blocks (rules_of side d c) k (start_of d c) s ≡ answers.good) ↔ ((j i : ℕ) → j < k → i < intervals_of d → verdict_at side d c s j i ≡ answers.good)
  blocks_good k =
      let all = first_good (judge_block (rules_of side d c)) (next_block (intervals_of d)) (intervals_of d * (size_of d + 8)) k (start_of d c) s in
      rw blocks_are (λ e j i h. (block_good j).0 (all.0 e j h) i, λ f. all.1 (λ j h. (block_good j).1 (λ i. f j i h)))

  pub side_good : (judged_on side d c s ≡ answers.good) ↔ ((j i : ℕ) → j < checked_on side d c → i < intervals_of d → verdict_at side d c s j i ≡ answers.good)
  unfolding judged_on
  side_good = blocks_good (checked_on side d c)

  -- and if they are not, the answer is that of the first wrong interval
  abbrev k : ℕ
  k = checked_on side d c

  pub side_wrong : is_good (judged_on side d c s) ≡ false → FirstWrongInterval side d c s (judged_on side d c s)
  unfolding judged_on
  side_wrong = rw blocks_are (λ w. found (in_blocks k) (first_found (judge_block (rules_of side d c)) (next_block (intervals_of d)) (intervals_of d * (size_of d + 8)) k (start_of d c) s w))
    where
      found : (a : Answer) → FirstWrong (judge_block (rules_of side d c)) (next_block (intervals_of d)) (intervals_of d * (size_of d + 8)) k (start_of d c) s a → FirstWrongInterval side d c s a
      found a f = by (skipped side d c s f.at) refl (sym (block_is f.at) ∙ f.here)
        where
          by : (b : Bool) → skipped side d c s f.at ≡ b → cond b answers.good (in_block f.at) ≡ a → FirstWrongInterval side d c s a
          by true e h = absurd (not_both a (sym h) f.wrong)
          by false e h =
              let g = first_found (judge_interval (rules_of side d c)) next_interval (size_of d + 8) (intervals_of d) (reached f.at) (block_at d s f.at) (ap is_good h ∙ f.wrong) in
              let here : judge_interval (rules_of side d c) (place_at d c f.at g.at) (interval_at d s f.at g.at) ≡ a = sym (piece_is f.at g.at) ∙ g.here ∙ h in
              record {
                block = f.at;
                interval = g.at;
                block_within = f.within;
                interval_within = g.within;
                earlier_blocks = λ j i l m. (block_good j).0 (f.earlier j l) i m;
                earlier_intervals = λ i l. rw e (sym (piece_is f.at i) ∙ g.earlier i l);
                checked = e;
                here = here;
                wrong = f.wrong;
                names = rw here at (interval_names (rules_of side d c) (place_at d c f.at g.at) (interval_at d s f.at g.at) (ap is_good here ∙ f.wrong));
              }

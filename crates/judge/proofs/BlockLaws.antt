-- Blocks and runs of blocks: their parts, the escape, what they can depend on, and runs in two pieces.
-- Assumes nothing.
use Rattle.std.proofs.Common.{◌≡◌, ℕ, ◌+◌, ◌-◌, ◌*◌, ◌^◌, ◌<◌, ◌≤◌, Bool, true, false, cond, List, length, take, drop, sym, refl, ◌∙◌, ap₂, mul-le-mul, one-mul, zero-add, arith, length-drop, length-take-le, drop-drop}
use Rattle.words.proofs.Parts.{part_at}
use Rattle.words.proofs.Runs.{peel_within, peel_rest}
use Rattle.words.proofs.Turns.{after}
use Rattle.answer.specs.Answer.{or_else, Answer}
use Rattle.field.proofs.Laws.{own_data, own_field}
use Rattle.answer.specs.Answer as answers
use Rattle.interval.specs.declared.Rules.{Rules}
use Rattle.interval.specs.declared.Place.{Place}
use Rattle.interval.specs.Interval.{any_escapes, judge_pieces, judge_interval}
use Rattle.interval.proofs.IntervalLaws.{own_any}
use Rattle.judge.specs.Judge.{judge_intervals, judge_block, judge_blocks, next_interval, next_block, Run}
use Rattle.judge.proofs.FirstLaws.{own_bytes, first_two}

-- ---- what judging can depend on
module _ (r : Rules) where
  pub own_interval : (p : Place) (s : List ℕ) → judge_interval r p (take (r.size + 8) s) ≡ judge_interval r p s
  unfolding judge_interval
  own_interval p s = ap₂ (judge_pieces r p) (own_data r.size s) (own_field r.size s)

  pub own_block : (p : Place) (s : List ℕ) → judge_block r p (take (r.intervals * (r.size + 8)) s) ≡ judge_block r p s
  unfolding judge_block judge_intervals
  own_block p s =
      ap₂ (λ (b : Bool) (a : Answer). cond b answers.good a) (own_any r.escape r.size r.intervals s)
      (own_bytes (judge_interval r) next_interval (r.size + 8) own_interval r.intervals p s)

-- ---- a block, by its escape
module _ (r : Rules) (p : Place) (s : List ℕ) where
  pub block_escaped : any_escapes r.escape r.size r.intervals s ≡ true → judge_block r p s ≡ answers.good
  unfolding judge_block
  block_escaped e = rw e refl

  pub block_judged : any_escapes r.escape r.size r.intervals s ≡ false → judge_block r p s ≡ judge_intervals r r.intervals p s
  unfolding judge_block
  block_judged e = rw e refl

-- ---- intervals and blocks in two runs, from any place
module _ (r : Rules) (k m : ℕ) (p : Place) (s : List ℕ) where
  pub intervals_two : judge_intervals r (k + m) p s ≡ or_else (judge_intervals r k p s) (judge_intervals r m (after next_interval k p) (drop (k * (r.size + 8)) s))
  unfolding judge_intervals
  intervals_two = first_two (judge_interval r) next_interval (r.size + 8) k m p s

  pub blocks_two : judge_blocks r (k + m) p s
      ≡ or_else (judge_blocks r k p s) (judge_blocks r m (after (next_block r.intervals) k p) (drop (k * (r.intervals * (r.size + 8))) s))
  unfolding judge_blocks
  blocks_two = first_two (judge_block r) (next_block r.intervals) (r.intervals * (r.size + 8)) k m p s

-- ---- a run of blocks: the first, and those behind it
module _ (r : Rules) (k : ℕ) (p : Place) (s : List ℕ) (run : Run r k p s) (some : 0 < k) where
  run_within : r.intervals * (r.size + 8) ≤ length s
  run_within = rw zero-add at (peel_within k 0 (r.intervals * (r.size + 8)) (length s) some (zero-add _ ∙ run.whole))

  -- the intervals of the first block, and then those of the others
  apiece : p.interval + r.intervals + (k - 1) * r.intervals ≤ 2 ^ 32
  apiece = rw (peel_rest k p.interval r.intervals _ some refl) run.intervals

  run_one : Run r 1 p (take (r.intervals * (r.size + 8)) s)
  run_one =
      record {
        whole = one-mul _ ∙ sym (length-take-le _ s run_within);
        addresses = omega (arith, run.addresses);
        intervals = omega (arith, apiece, one-mul r.intervals);
        few = run.few;
        size = run.size;
      }

  run_next : Run r (k - 1) (next_block r.intervals p) (drop (r.intervals * (r.size + 8)) s)
  run_next =
      record {
        whole = rw length-drop (omega (arith, peel_rest k 0 (r.intervals * (r.size + 8)) (length s) some (zero-add _ ∙ run.whole)));
        addresses = omega (arith, run.addresses);
        intervals = apiece;
        few = run.few;
        size = run.size;
      }

-- the same of a run that starts at i
module _ {r : Rules} {k : ℕ} {p : Place} (s : List ℕ) (i : ℕ) (run : Run r k p (drop i s)) (some : 0 < k) where
  pub first_within : i ≤ length s → i + r.intervals * (r.size + 8) ≤ length s
  first_within h = omega (arith, length-drop i s, run_within r k p (drop i s) run some)

  pub first_run : Run r 1 p (take (i + r.intervals * (r.size + 8) - i) (drop i s))
  first_run = rw part_at (run_one r k p (drop i s) run some)

  pub first_room : (r.intervals ≤ 8) × (p.interval + r.intervals ≤ 2 ^ 32) × (p.address < 2 ^ 63)
  first_room =
      let one = run_one r k p (drop i s) run some in
      (one.few, omega (arith, one.intervals, one-mul r.intervals), omega (arith, one.addresses))

  pub rest_run : Run r (k - 1) (next_block r.intervals p) (drop (i + r.intervals * (r.size + 8)) s)
  rest_run = rw (← drop-drop (r.intervals * (r.size + 8)) i s) (run_next r k p (drop i s) run some)

-- the bytes of a block, at most
pub block_fits : {r : Rules} {k : ℕ} {p : Place} {s : List ℕ} → Run r k p s → r.intervals * (r.size + 8) ≤ 8 * (4096 + 8)
block_fits run = mul-le-mul {m₂ = 4096 + 8} run.few (omega (arith, run.size))

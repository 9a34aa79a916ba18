-- `judge::judge_blocks`: the blocks that are left give, from the place reached, what all of them give; each is judged by its own bytes.
use Rattle.std.proofs.Common.{◌≡◌, ℕ, ◌+◌, ◌-◌, ◌*◌, ◌%◌, ◌^◌, ◌<◌, ◌≤◌, true, false, List, take, drop, sym, refl, ap, ◌∙◌, add_assoc, add-suc, add-zero, zero-mul, suc-mul, add-one, arith}
use Rattle.std.proofs.lemmas.Result.{err_from_is_err_and}
use Rattle.words.proofs.Parts.{part_at}
use Rattle.answer.specs.Answer.{Answer, is_good}
use Rattle.interval.specs.declared.Rules.{Rules}
use Rattle.interval.specs.declared.Place.{Place}
use Rattle.judge.specs.Judge.{judge_block, judge_blocks, place_on, next_block, Run}
use Rattle.judge.proofs.FirstLaws.{first_next, first_stop, first_end}
use Rattle.judge.proofs.BlockLaws.{own_block, first_run, first_room, rest_run, block_fits}
use Rattle.judge.proofs.judge_blocks.Invariants.{reach, Going}
use Rattle.judge.proofs.judge_blocks.Goals as goal

reached_none : (n : ℕ) (p : Place) → place_on p 0 (0 * n) p.tag ≡ p
reached_none n p = rw (zero-mul, add-zero p.address, add-zero p.interval) refl

reached_next : (n : ℕ) (p : Place) (k tag : ℕ) → place_on p (k + 1) ((k + 1) * n) ((tag + n) % 2 ^ 32) ≡ next_block n (place_on p k (k * n) tag)
reached_next n p k tag = rw (add-one, suc-mul, ← add_assoc p.interval, add-suc, add-one) refl

begins : {r : Rules} {n : ℕ} {p : Place} {s : List ℕ} → Run r n p s → Going r n p s 0 p.tag
unfolding judge_blocks
begins {r} {n} {p} run =
    let all : n - 0 ≡ n = omega arith in
    let start : reach r 0 ≡ 0 = zero-mul _ in
    record {
      run = rw (all, reached_none r.intervals p, start) run;
      same = rw (all, reached_none r.intervals p, start) refl;
    }

module _ {r : Rules} {n : ℕ} {p : Place} {s : List ℕ} {k tag : ℕ} (g : Going r n p s k tag) (h : k < n) where
  first : Run r 1 (place_on p k (k * r.intervals) tag) (take (reach r k + r.intervals * (r.size + 8) - reach r k) (drop (reach r k) s))
  first = first_run s (reach r k) g.run (omega arith)

  more : {here : Place} → here ≡ place_on p k (k * r.intervals) tag
      → (r.intervals ≤ 8) × (here.interval + r.intervals ≤ 2 ^ 32) × (here.address < 2 ^ 63)
  more w = rw w (first_room s (reach r k) g.run (omega arith))

  module _ {here : Place} {a : Answer} (w : here ≡ place_on p k (k * r.intervals) tag)
      (m : a ≡ judge_block r here (take (reach r k + r.intervals * (r.size + 8) - reach r k) (drop (reach r k) s))) where
    judged : a ≡ judge_block r (place_on p k (k * r.intervals) tag) (drop (reach r k) s)
    judged = rw w at m ∙ ap (judge_block r _) (part_at (reach r k) _ s) ∙ own_block r _ (drop (reach r k) s)

    stop : is_good a ≡ false → a ≡ judge_blocks r n p s
    stop o = first_stop (judge_block r) (next_block r.intervals) _ (n - k) (reach r k) _ s a _ (omega arith) judged o g.same

    turn : {there : Place} → is_good a ≡ true → there ≡ next_block r.intervals here → Going r n p s (k + 1) there.tag
    turn {there} o e =
        let next : there.tag ≡ (tag + r.intervals) % 2 ^ 32 = ap (λ (q : Place). q.tag) (e ∙ ap (next_block r.intervals) w) in
        let on : n - (k + 1) ≡ n - k - 1 = omega arith in
        let at : reach r (k + 1) ≡ reach r k + r.intervals * (r.size + 8) = omega arith in
        rw next
        (record {
          run = rw (on, at, reached_next r.intervals p k tag) (rest_run s (reach r k) g.run (omega arith));
          same = rw (on, at, reached_next r.intervals p k tag) (first_next (judge_block r) (next_block r.intervals) _ (n - k) (reach r k) _ s a _ (omega arith) judged o g.same);
        })

pub loop-k-init : goal.loop-k-init
loop-k-init c = begins c.requires

pub overflow_mul-block : goal.overflow_mul-block
overflow_mul-block c = omega (arith, block_fits c.requires)

pub returns-in_err-judge_block : goal.returns-in_err-judge_block
returns-in_err-judge_block c =
    let p = err_from_is_err_and c.from_residual.result c.from_residual.ensures.1 in
    rw (p.1, p.2)
    (sym c.in_err-judge_block.was
    ∙ stop c.loop-k.invariant c.loop-k-test.true c.place_on-here.ensures c.judge_block.ensures (ap is_good c.in_err-judge_block.was))

pub loop-k-preserved : goal.loop-k-preserved
loop-k-preserved c =
    turn c.loop-k.invariant c.loop-k-test.true c.place_on-here.ensures c.judge_block.ensures
    (ap is_good c.in_ok-judge_block.was) c.next_block-tag.ensures

pub returns : goal.returns
returns c = first_end _ _ _ (c.args.count - c.loop-k.k) _ _ _ (omega arith) c.loop-k.invariant.same

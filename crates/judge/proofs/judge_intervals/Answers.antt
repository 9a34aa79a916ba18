-- `judge::judge_intervals`: the intervals that are left give, from the place reached, what all of them give.
use Rattle.std.proofs.Common.{◌≡◌, ℕ, ◌+◌, ◌-◌, ◌*◌, ◌%◌, ◌^◌, ◌<◌, true, false, List, take, drop, sym, refl, ap, ◌∙◌, ap₂, add-zero, zero-mul, add_assoc, arith}
use Rattle.std.proofs.lemmas.Result.{err_from_is_err_and}
use Rattle.answer.specs.Answer.{Answer, is_good}
use Rattle.interval.specs.declared.Rules.{Rules}
use Rattle.interval.specs.declared.Place.{Place}
use Rattle.interval.specs.Interval.{judge_pieces, judge_interval}
use Rattle.field.specs.Field.{field_of}
use Rattle.field.proofs.Laws.{data_part, field_behind}
use Rattle.judge.specs.Judge.{judge_intervals, place_on, next_interval}
use Rattle.judge.proofs.FirstLaws.{first_next, first_stop, first_end}
use Rattle.judge.proofs.judge_intervals.Invariants.{Judging}
use Rattle.judge.proofs.judge_intervals.Goals as goal

reached_none : (p : Place) → place_on p 0 0 p.tag ≡ p
reached_none p = rw (add-zero p.address, add-zero p.interval) refl

reached_next : (p : Place) (k tag : ℕ) → place_on p 0 (k + 1) ((tag + 1) % 2 ^ 32) ≡ next_interval (place_on p 0 k tag)
reached_next p k tag = rw (← add_assoc p.interval k 1) refl

begins : (r : Rules) (n : ℕ) (p : Place) (s : List ℕ) → Judging r n p s 0 p.tag
unfolding judge_intervals
begins r n p s = let all : n - 0 ≡ n = omega arith in rw (all, zero-mul, reached_none p) refl

module _ (r : Rules) (n : ℕ) (p : Place) (s : List ℕ) {k tag : ℕ} (g : Judging r n p s k tag) (h : k < n) where
  module _ {here : Place} {a : Answer} {f : List ℕ} (w : here ≡ place_on p 0 k tag) (b : f ≡ field_of (k * (r.size + 8) + r.size) s)
      (m : a ≡ judge_pieces r here (take (k * (r.size + 8) + r.size - k * (r.size + 8)) (drop (k * (r.size + 8)) s)) f) where
    judged : a ≡ judge_interval r (place_on p 0 k tag) (drop (k * (r.size + 8)) s)
    unfolding judge_interval
    judged =
        rw (w, b) at m
        ∙ ap₂ (judge_pieces r (place_on p 0 k tag)) (data_part (k * (r.size + 8)) r.size s) (field_behind (k * (r.size + 8)) r.size s)

    stop : is_good a ≡ false → a ≡ judge_intervals r n p s
    stop o = first_stop (judge_interval r) next_interval (r.size + 8) (n - k) (k * (r.size + 8)) _ s a _ (omega arith) judged o g

    turn : {there : Place} → is_good a ≡ true → there ≡ next_interval here → Judging r n p s (k + 1) there.tag
    turn {there} o e =
        let next : there.tag ≡ (tag + 1) % 2 ^ 32 = ap (λ (q : Place). q.tag) (e ∙ ap next_interval w) in
        let on : n - (k + 1) ≡ n - k - 1 = omega arith in
        let at : (k + 1) * (r.size + 8) ≡ k * (r.size + 8) + (r.size + 8) = omega arith in
        rw (next, on, at, reached_next p k tag)
        (first_next (judge_interval r) next_interval (r.size + 8) (n - k) (k * (r.size + 8)) _ s a _ (omega arith) judged o g)

pub loop-k-init : goal.loop-k-init
loop-k-init c = begins _ _ _ _

pub returns-in_err-judge_pieces : goal.returns-in_err-judge_pieces
returns-in_err-judge_pieces c =
    let p = err_from_is_err_and c.from_residual.result c.from_residual.ensures.1 in
    rw (p.1, p.2)
    (sym c.in_err-judge_pieces.was
    ∙ stop _ _ _ _ c.loop-k.invariant c.loop-k-test.true c.place_on-here.ensures c.field_of.ensures c.judge_pieces.ensures
    (ap is_good c.in_err-judge_pieces.was))

pub loop-k-preserved : goal.loop-k-preserved
loop-k-preserved c =
    turn _ _ _ _ c.loop-k.invariant c.loop-k-test.true c.place_on-here.ensures c.field_of.ensures c.judge_pieces.ensures
    (ap is_good c.in_ok-judge_pieces.was) c.next_interval-tag.ensures

pub returns : goal.returns
returns c = first_end _ _ _ (c.args.count - c.loop-k.k) _ _ _ (omega arith) c.loop-k.invariant

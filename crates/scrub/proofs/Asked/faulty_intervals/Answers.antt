-- `scrub::Asked::faulty_intervals`: no interval so far has the escape; whether one was wrong, with those that are left, gives what all of them give.
use Rattle.std.proofs.Common.{◌≡◌, ℕ, zero, suc, ◌+◌, ◌-◌, ◌<◌, ◌≤◌, Bool, true, false, not, ◌&&◌, ◌||◌, List, length, take, drop, refl, sym, ap, ap₂, ◌∙◌, zero-add, arith}
use Rattle.words.proofs.Choice.{or_assoc, or_false}
use Rattle.words.proofs.Turns.{turn_of}
use Rattle.words.proofs.Counted.{counted_from, counted_on}
use Rattle.words.proofs.Runs.{peel_rest}
use Rattle.answer.specs.Answer.{Answer, is_good, or_else}
use Rattle.answer.proofs.Ladder.{good_of_both}
use Rattle.field.specs.Field.{field_of}
use Rattle.field.proofs.Laws.{interval_within, data_part, field_behind}
use Rattle.interval.specs.declared.Rules.{Rules}
use Rattle.interval.specs.declared.Place.{Place}
use Rattle.interval.specs.Interval.{escapes, judge_pieces, judge_interval}
use Rattle.interval.proofs.IntervalLaws.{any_next, any_stop, any_end}
use Rattle.judge.specs.FirstOf.{first_of}
use Rattle.judge.specs.Judge.{judge_intervals, judge_block, next_interval, Stretch}
use Rattle.judge.proofs.BlockLaws.{block_escaped, block_judged}
use Rattle.scrub.proofs.Asked.faulty_intervals.Invariants.{any_wrong, Going}
use Rattle.scrub.proofs.Asked.faulty_intervals.Goals as goal
use Rattle.scrub.proofs.Asked.faulty_intervals.Goals.{then-wrong, else-wrong}

either_wrong : (a b : Answer) → not (is_good (or_else a b)) ≡ (not (is_good a) || not (is_good b))
either_wrong a b = ap not (good_of_both a b) ∙ by (is_good a)
  where
    by : (g : Bool) → not (g && is_good b) ≡ (not g || not (is_good b))
    by true = refl
    by false = refl

-- whether one was wrong, with the one that is looked at only where none was
already : {wrong either : Bool} (x : Bool) → wrong ≡ true → either ≡ wrong → either ≡ (wrong || x)
already x t e = e ∙ t ∙ sym (ap (λ (w : Bool). w || x) t)

not_yet : {wrong either x : Bool} → wrong ≡ false → either ≡ x → either ≡ (wrong || x)
not_yet {x = x} t e = e ∙ sym (ap (λ (w : Bool). w || x) t)

module _ (r : Rules) where
  abbrev wrong_one : Place → List ℕ → Bool
  wrong_one p s = not (is_good (judge_interval r p s))

  turned : (k : ℕ) (p : Place) (s : List ℕ) → any_wrong r (suc k) p s ≡ (wrong_one p s || any_wrong r k (next_interval p) (drop (r.size + 8) s))
  unfolding first_of
  turned k p s = either_wrong (judge_interval r p s) (first_of (judge_interval r) next_interval (r.size + 8) k (next_interval p) (drop (r.size + 8) s))

  ended : (k : ℕ) (p : Place) (s : List ℕ) → k ≤ 0 → any_wrong r k p s ≡ false
  unfolding first_of
  ended zero p s h = refl
  ended (suc k) p s h = absurd (omega arith)

begins : {r : Rules} {p : Place} {s : List ℕ} → Stretch r r.intervals p s → Going r p s p false r.intervals 0
unfolding judge_intervals
begins run = record { from = zero-add _ ∙ run.whole; room = run.intervals; escaped = refl; same = refl }

module _ {r : Rules} {p : Place} {s : List ℕ} {here : Place} {wrong : Bool} {left i : ℕ} (g : Going r p s here wrong left i) (h : 0 < left) where
  within : i + r.size + 8 ≤ length s
  within = interval_within left i r.size (length s) h g.from

  module _ {f : List ℕ} (w : f ≡ field_of (i + r.size) s) where
    field_here : f ≡ field_of r.size (drop i s)
    field_here = w ∙ field_behind i r.size s

    judged : {x : Bool} → x ≡ not (is_good (judge_pieces r here (take (i + r.size - i) (drop i s)) f)) → x ≡ wrong_one r here (drop i s)
    unfolding judge_interval
    judged e = e ∙ ap₂ (λ (d f : List ℕ). not (is_good (judge_pieces r here d f))) (data_part i r.size s) field_here

    module _ {b : Bool} (e : b ≡ escapes r.escape f) where
      looked : b ≡ escapes r.escape (field_of r.size (drop i s))
      looked = e ∙ ap (escapes r.escape) field_here

      stop : b ≡ true → false ≡ not (is_good (judge_block r p s))
      stop t = sym (ap (λ (a : Answer). not (is_good a)) (block_escaped r p s (sym (any_stop r.escape r.size left i s b _ h looked t g.escaped))))

      turn : {either : Bool} {there : Place} → b ≡ false → either ≡ (wrong || wrong_one r here (drop i s)) → there ≡ next_interval here
          → Going r p s there either (left - 1) (i + (r.size + 8))
      turn o eo et =
          let rest = turn_of (wrong_one r) next_interval (r.size + 8) (any_wrong r) ◌||◌ (turned r) left i here s _ _ h refl refl in
          rw (eo, et)
          (record {
            from = peel_rest left i (r.size + 8) (length s) h g.from;
            room = omega (arith, h, g.room);
            escaped = any_next r.escape r.size left i s b _ h looked o g.escaped;
            same = or_assoc wrong _ _ ∙ ap (λ (y : Bool). wrong || y) rest ∙ g.same;
          })

-- none had the escape
done : {r : Rules} {p : Place} {s : List ℕ} {here : Place} {wrong : Bool} {left i : ℕ} → Going r p s here wrong left i → left ≤ 0 → wrong ≡ not (is_good (judge_block r p s))
done {r} {p} {s} {here} {wrong} {left} {i} g h =
    sym (or_false wrong) ∙ ap (λ (y : Bool). wrong || y) (sym (ended r left here (drop i s) h)) ∙ g.same
    ∙ ap (λ (a : Answer). not (is_good a)) (sym (block_judged r p s (sym (any_end r.escape r.size left (drop i s) _ h g.escaped))))

pub loop-k-init : goal.loop-k-init
loop-k-init c =
    counted_from (Going c.args.self.rules c.args.p c.args.s.now c.args.p false) c.args.self.rules.intervals _ (begins c.requires)

pub returns-then-escapes : goal.returns-then-escapes
returns-then-escapes c =
    stop c.loop-k.invariant (omega arith) c.field_of-field.ensures c.escapes.ensures c.if-escapes.true

pub loop-k-preserved : goal.loop-k-preserved
loop-k-preserved c =
    counted_on (Going c.args.self.rules c.args.p c.args.s.now c.next_interval-here.result c.if-wrong.wrong) c.args.self.rules.intervals _ c.loop-k.k c.loop-k-test.true
    (turn c.loop-k.invariant (omega arith) c.field_of-field.ensures c.escapes.ensures c.if-escapes.false
    (elim c.if-wrong.branch [
      | then-wrong w ↦ already _ w.if-wrong.true w.wrong-is
      | else-wrong w ↦ not_yet w.if-wrong.false (w.wrong-is ∙ judged c.loop-k.invariant (omega arith) c.field_of-field.ensures w.wrong_pieces-wrong.ensures)
    ])
    c.next_interval-here.ensures)

pub returns : goal.returns
returns c = done c.loop-k.invariant (omega arith)

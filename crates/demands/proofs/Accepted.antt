-- What was written is judged good when it is read: inserted fields are right ones, and fields that a WRITE found right stay right.
-- Assumes nothing.
use mathlib.Core.Path.{◌≡◌, refl, sym, ap, ap₂, ◌∙◌}
use mathlib.Core.Bool.{Bool, true, false, ◌&&◌, ◌||◌, cond}
use mathlib.Core.List.{List, [], ◌++◌, append_assoc, append-nil}
use Prim.Native.Nat.{ℕ, zero, suc, ◌+◌, ◌*◌, ◌%◌, ◌^◌, ◌<◌, ◌≤◌}
use native.Mathlib.Nat.{suc-mul, mod-lt, mul-one}
use native.Mathlib.Omega.{arith}
use borrow.Author.Tests.{eqb-true}
use lib.Bits.{bit_and}
use lib.Dec.{eqb, lit<}
use lib.ListN.{length, take, drop, length-drop}
use lib.Seq.{drop_at}
use Rattle.words.proofs.Choice.{never, unwrong}
use Rattle.words.specs.Runs.{runs}
use Rattle.answer.specs.Answer.{Answer}
use Rattle.answer.specs.Answer as answers
use Rattle.segment.specs.declared.Description.{Description}
use Rattle.segment.specs.Segment.{intervals_of, size_of}
use Rattle.segment.specs.Places.{interval_at}
use Rattle.command.specs.declared.Command.{Command}
use Rattle.command.specs.Tags.{long, tag_of, application_of}
use Rattle.interval.specs.declared.Rules.{Rules}
use Rattle.interval.specs.declared.Place.{Place}
use Rattle.interval.specs.declared.Escape.TheVariants.{Never}
use Rattle.guard.specs.Guard.{guard}
use Rattle.guard.proofs.Laws.{guard_lt}
use Rattle.field.specs.Field.{field_bytes, data_of}
use Rattle.field.proofs.Demands.{guard_read_back, application_read_back, reference_read_back}
use Rattle.interval.specs.Interval.{escapes, any_escapes, guard_wrong, application_wrong, reference_wrong, judge_pieces, judge_interval}
use Rattle.interval.proofs.PieceLaws.{pieces_verdict}
use Rattle.interval.proofs.IntervalLaws.{any_none}
use Rattle.judge.specs.FirstOf.{first_of}
use Rattle.judge.specs.Judge.{judge_intervals, judge_block, judge_blocks, next_interval, next_block}
use Rattle.insertion.specs.declared.Marks.{Marks}
use Rattle.insertion.specs.Insertion.{with_field, later, stored_block, stored_blocks}
use Rattle.insertion.proofs.Laws.{interval_length, block_length, interval_read_on, interval_field_on}
use Rattle.rules.specs.Rules.{columns_of, application_known, reference_known, first_tag, rules_of, start_of}
use Rattle.marks.specs.Inserted.{inserted_application, inserted_reference, marks_of}
use Rattle.sides.specs.declared.Side.TheVariants.{Sent, Stored}
use Rattle.rules.specs.Intervals.{place_at, skipped, verdict_at}
use Rattle.demands.specs.Compared.{as_read}
use Rattle.demands.proofs.Wrong.{blocks_good}

-- ---- pieces that are each judged good, one behind the other
module _ {M : Type 0} (judge : Place → List ℕ → Answer) (next : Place → Place) (piece : M → List ℕ → List ℕ) (on : M → M) (P Q : ℕ) (F : Place → M → Type 0)
    (each : (p : Place) (m : M) (s rest : List ℕ) → F p m → P ≤ length s → judge p (piece m s ++ rest) ≡ answers.good)
    (long : (m : M) (s : List ℕ) → P ≤ length s → length (piece m s) ≡ Q) (go : (p : Place) (m : M) → F p m → F (next p) (on m)) where
  runs_right : (k : ℕ) (p : Place) (m : M) (s rest : List ℕ) → F p m → k * P ≤ length s
      → first_of judge next Q k p (runs piece on P k m s ++ rest) ≡ answers.good
  unfolding first_of runs
  runs_right zero p m s rest f h = refl
  runs_right (suc k) p m s rest f h =
      let one : P ≤ length s = omega (arith, suc-mul k P) in
      let others = runs piece on P k (on m) (drop P s) in
      let less : k * P ≤ length (drop P s) = rw length-drop (omega (arith, suc-mul k P)) in
      rw (append_assoc (piece m s) others rest, each p m s (others ++ rest) f one, drop_at (piece m s) (others ++ rest) Q (long m s one))
      (runs_right k (next p) (on m) (drop P s) rest (go p m f) less)

-- ---- fields that were inserted
-- the marks are the ones expected there
record Fit (r : Rules) (p : Place) (m : Marks) : Type 0 where
  application : r.application ≡ true → m.application ≡ r.expected
  reference : r.reference ≡ true → (m.reference ≡ p.tag) × (m.step ≡ 1)
  two_bytes : m.application < 65536
  four_bytes : m.reference < 2 ^ 32

module _ (r : Rules) where
  field_right : (p : Place) (m : Marks) (d : List ℕ) → Fit r p m → judge_pieces r p d (field_bytes (guard d) m.application m.reference) ≡ answers.good
  unfolding guard_wrong application_wrong reference_wrong
  field_right p m d f =
      (pieces_verdict r p d _).good.1 (
        unwrong r.guard _ _ (λ o. guard_read_back (guard d) _ _ (guard_lt d)),
        unwrong r.application _ _ (λ o. ap (λ (x : ℕ). bit_and x r.mask) (application_read_back _ m.application _ f.two_bytes ∙ f.application o)),
        unwrong r.reference _ _ (λ o. reference_read_back _ _ m.reference f.four_bytes ∙ (f.reference o).0),
      )

  interval_right : (p : Place) (m : Marks) (s rest : List ℕ) → Fit r p m → r.size ≤ length s → judge_interval r p (with_field r.size m s ++ rest) ≡ answers.good
  unfolding judge_interval data_of
  interval_right p m s rest f h =
      ap₂ (judge_pieces r p) (interval_read_on r.size m s rest h)
      (interval_field_on r.size m s rest h)
      ∙ field_right p m (take r.size s) f

  fit_later : (k a i : ℕ) (p : Place) (m : Marks) → Fit r p m → Fit r (record { address = a; interval = i; tag = (p.tag + k) % 2 ^ 32 }) (later k m)
  fit_later k a i p m f =
      record {
        application = f.application;
        reference = λ o. let two = f.reference o in (rw (two.0, two.1, mul-one), two.1);
        two_bytes = f.two_bytes;
        four_bytes = mod-lt (m.reference + k * m.step) (lit< tt);
      }

  either : (b : Bool) (a : Answer) → a ≡ answers.good → cond b answers.good a ≡ answers.good
  either true a e = refl
  either false a e = e

  block_right : (p : Place) (m : Marks) (s rest : List ℕ) → Fit r p m → r.intervals * r.size ≤ length s
      → judge_block r p (stored_block r.size r.intervals m s ++ rest) ≡ answers.good
  unfolding judge_block judge_intervals stored_block
  block_right p m s rest f h =
      either (any_escapes r.escape r.size r.intervals (stored_block r.size r.intervals m s ++ rest)) _
      (runs_right (judge_interval r) next_interval (with_field r.size) (later 1) r.size (r.size + 8) (Fit r) interval_right (interval_length r.size)
      (λ q n g. fit_later 1 q.address (q.interval + 1) q n g) r.intervals p m s rest f h)

  inserted_right : (k : ℕ) (p : Place) (m : Marks) (s : List ℕ) → Fit r p m → k * (r.intervals * r.size) ≤ length s
      → judge_blocks r k p (stored_blocks r.size r.intervals k m s) ≡ answers.good
  unfolding judge_blocks stored_blocks
  inserted_right k p m s f h =
      rw append-nil at
      (runs_right (judge_block r) (next_block r.intervals) (stored_block r.size r.intervals) (later r.intervals) (r.intervals * r.size)
      (r.intervals * (r.size + 8)) (Fit r) block_right (block_length r.size r.intervals)
      (λ q n g. fit_later r.intervals (q.address + 1) (q.interval + r.intervals) q n g) k p m s [] f h)

-- the marks that a WRITE with 000 begins with are those that the READ expects first
fit_application : (col l : Bool) (a x : ℕ) → col && (l && eqb a 1) ≡ true → cond (eqb a 0) 0x0000 (cond l x 0xFFFF) ≡ x
fit_application true true a x o = rw (eqb-true a 1 o)
fit_application true false a x o = never o
fit_application false l a x o = never o

fit_reference : (col l : Bool) (k x y z : ℕ) → col && (eqb k 1 || (eqb k 2 && l)) ≡ true
    → (cond (eqb k 1) x (cond (eqb k 2) (cond l y z) 0) ≡ cond (eqb k 1) x y) × (◌≡◌ {A = ℕ} (cond (eqb k 3) 0 1) 1)
fit_reference false l k x y z o = never o
fit_reference true l k x y z o = by (eqb k 1) refl (eqb k 2) refl l o
  where
    by : (p : Bool) → eqb k 1 ≡ p → (q : Bool) → eqb k 2 ≡ q → (l : Bool) → p || (q && l) ≡ true
        → (cond p x (cond q (cond l y z) 0) ≡ cond p x y) × (◌≡◌ {A = ℕ} (cond (eqb k 3) 0 1) 1)
    by true e q f l o = (refl, rw (eqb-true k 1 e) refl)
    by false e true f true o = (refl, rw (eqb-true k 2 f) refl)
    by false e true f false o = never o
    by false e false f l o = never o

small_of : (b : Bool) (x y n : ℕ) → x < n → y < n → cond b x y < n
small_of true x y n p q = p
small_of false x y n p q = q

module _ (d : Description) (c : Command) (application : application_of c < 65536) (tag : tag_of c < 2 ^ 32) where
  pub small_application : (marks_of d c).application < 65536
  unfolding marks_of inserted_application
  small_application = small_of (eqb d.ato 0) _ _ 65536 (lit< tt) (small_of (long c) _ _ 65536 application (lit< tt))

  pub small_reference : (marks_of d c).reference < 2 ^ 32
  unfolding marks_of inserted_reference
  small_reference =
      small_of (eqb d.kind 1) _ _ (2 ^ 32) (mod-lt c.address (lit< tt))
      (small_of (eqb d.kind 2) _ _ (2 ^ 32) (small_of (long c) _ _ (2 ^ 32) tag (mod-lt (c.address * intervals_of d) (lit< tt))) (lit< tt))

  fit_start : Fit (rules_of Stored d (as_read c)) (start_of d (as_read c)) (marks_of d c)
  unfolding rules_of start_of marks_of inserted_application inserted_reference application_known reference_known first_tag
  fit_start =
      record {
        application = fit_application (columns_of c.code).application (long c) d.ato (application_of c);
        reference = fit_reference (columns_of c.code).reference (long c) d.kind (c.address % 2 ^ 32) (tag_of c) (c.address * intervals_of d % 2 ^ 32);
        two_bytes = small_application;
        four_bytes = small_reference;
      }

  pub inserted_accepted : (s : List ℕ) → c.length * (intervals_of d * size_of d) ≤ length s
      → judge_blocks (rules_of Stored d (as_read c)) c.length (start_of d (as_read c)) (stored_blocks (size_of d) (intervals_of d) c.length (marks_of d c) s) ≡ answers.good
  unfolding rules_of
  inserted_accepted s h = inserted_right (rules_of Stored d (as_read c)) c.length (start_of d (as_read c)) (marks_of d c) s fit_start h

-- ---- fields that were received: only the escape is judged otherwise
module _ (d : Description) (c : Command) (s : List ℕ) where
  not_skipped : (j : ℕ) → skipped Sent d c s j ≡ false
  unfolding rules_of escapes
  not_skipped j = ((any_none Never (size_of d) (intervals_of d) _).1 (λ i h. refl))

  verdict_kept : (j i : ℕ) → verdict_at Sent d c s j i ≡ answers.good → verdict_at Stored d (as_read c) s j i ≡ answers.good
  unfolding rules_of judge_interval judge_pieces guard_wrong application_wrong reference_wrong first_tag application_known reference_known
  verdict_kept j i e =
      either (rules_of Sent d c) (skipped Stored d (as_read c) s j) _
      (ap (λ (b : Bool). cond b answers.good (judge_interval (rules_of Sent d c) (place_at d c j i) (interval_at d s j i))) (sym (not_skipped j)) ∙ e)

  pub received_accepted : (k : ℕ) → first_tag d c < 2 ^ 32 → judge_blocks (rules_of Sent d c) k (start_of d c) s ≡ answers.good
      → judge_blocks (rules_of Stored d (as_read c)) k (start_of d (as_read c)) s ≡ answers.good
  received_accepted k small e =
      (blocks_good Stored d (as_read c) s (unfold first_tag in small) k).1 (λ j i h l. verdict_kept j i ((blocks_good Sent d c s small k).0 e j i h l))

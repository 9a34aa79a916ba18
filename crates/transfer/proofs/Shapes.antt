-- The shape of a transfer: its blocks and its buffer by intervals, what is judged of a side, what is moved.
-- Assumes nothing.
use mathlib.Core.Path.{◌≡◌, refl, sym, ap, ◌∙◌}
use mathlib.Core.Bool.{Bool, true, false, not, ◌||◌, cond}
use mathlib.Core.List.{List}
use Prim.Native.Nat.{ℕ, ◌+◌, ◌*◌, ◌≤◌}
use native.Mathlib.Nat.{mul_assoc}
use borrow.Author.Tests.{eq-eqb, ne_eqb, eqb-true, eqb-false}
use lib.Dec.{eqb, lit≤}
use lib.ListN.{length}
use Rattle.words.proofs.Choice.{never}
use Rattle.words.specs.Parts.{put}
use Rattle.answer.specs.Answer as answers
use Rattle.segment.specs.declared.Description.{Description}
use Rattle.segment.specs.Segment.{IsSegment, intervals_of, size_of, stored_of}
use Rattle.segment.specs.Places.{span_of}
use Rattle.segment.proofs.Laws.{sizes, stored_plain}
use Rattle.segment.proofs.Places.{span_intervals, span_flat}
use Rattle.command.specs.declared.Command.{Command}
use Rattle.judge.specs.FirstOf.{first_of}
use Rattle.judge.specs.Judge.{Run, judge_blocks}
use Rattle.sides.specs.declared.Side.{Side}
use Rattle.sides.specs.Sides.{checks_on, checked_on}
use Rattle.sides.proofs.Laws.{checks_all, checked_all}
use Rattle.rules.specs.Rules.{rules_of, start_of}
use Rattle.rules.proofs.Laws.{side_run}
use Rattle.marks.specs.Inserted.{marks_of}
use Rattle.insertion.specs.declared.Marks.{Marks}
use Rattle.blocks.specs.Blocks.{user_data}
use Rattle.insertion.specs.Insertion.{stored_blocks}
use Rattle.refusal.specs.Refusal.{moved_of}
use Rattle.refusal.proofs.Rules.{moved_plain, moved_whole}
use Rattle.transfer.specs.Transfer.{whole, judged_on, handed, received}
use Rattle.transfer.specs.Inner.{Shaped, Sided, Fitted}

-- ---- whole blocks or user data
pub whole_code : (d : Description) (c : Command) → (d.kind ≡ 0 → ⊥) → (c.code ≡ 0 → ⊥) → whole d c ≡ true
unfolding whole
whole_code d c k n = rw (ne_eqb d.kind 0 k, ne_eqb c.code 0 n)

pub whole_not : (d : Description) (c : Command) → (d.kind ≡ 0 → ⊥) → c.code ≡ 0 → whole d c ≡ false
unfolding whole
whole_not d c k z = rw (ne_eqb d.kind 0 k, eq-eqb c.code 0 z)

-- what a test of `whole` tells
pub record Parted (d : Description) (c : Command) : Type 0 where
  pub fields : d.kind ≡ 0 → ⊥
  pub zero : c.code ≡ 0

-- ---- a transfer's blocks and its buffer
module _ (d : Description) (c : Command) (s : IsSegment d) where
  pub moved_intervals : c.code ≡ 0 → c.length * (intervals_of d * size_of d) ≡ moved_of d c
  moved_intervals z = ap (λ (x : ℕ). c.length * x) (sizes d s).whole ∙ sym (moved_plain d c z)

  pub moved_flat : c.code ≡ 0 → c.length * intervals_of d * size_of d ≡ moved_of d c
  moved_flat z = mul_assoc c.length (intervals_of d) (size_of d) ∙ moved_intervals z

  pub moved_span : (c.code ≡ 0 → ⊥) → moved_of d c ≡ span_of d c.length
  unfolding span_of
  moved_span n = moved_whole d c n

  pub moved_plain_span : d.kind ≡ 0 → c.code ≡ 0 → moved_of d c ≡ span_of d c.length
  unfolding span_of
  moved_plain_span k z = moved_plain d c z ∙ ap (λ (x : ℕ). c.length * x) (sym (stored_plain d k))

-- ---- judging
module _ (side : Side) (d : Description) (c : Command) (s : List ℕ) where
  pub judged_none : checked_on side d c ≡ 0 → judged_on side d c s ≡ answers.good
  unfolding judged_on judge_blocks first_of
  judged_none e = rw e

  pub judged_all : (d.kind ≡ 0 → ⊥) → checks_on side c.operation c ≡ true → judged_on side d c s ≡ judge_blocks (rules_of side d c) c.length (start_of d c) s
  unfolding judged_on
  judged_all k e = rw (checked_all side d c k e)

  pub run : Shaped d c → Sided side d c (length s) → (checked_on side d c ≡ 0 → ⊥) → Run (rules_of side d c) (checked_on side d c) (start_of d c) s
  run h long n =
      let k = checks_all side d c n in
      rw k.all (side_run side d c c.length s h.described k.fields h.few h.end (long n))

-- ---- what the test of `whole` tells
module _ (d : Description) (c : Command) where
  pub moved_when_whole : IsSegment d → (d.kind ≡ 0 → c.code ≡ 0) → whole d c ≡ true → moved_of d c ≡ span_of d c.length
  unfolding whole
  moved_when_whole s p e = by (eqb d.kind 0) refl (eqb c.code 0) refl e
    where
      by : (k : Bool) → eqb d.kind 0 ≡ k → (z : Bool) → eqb c.code 0 ≡ z → (k || not z) ≡ true → moved_of d c ≡ span_of d c.length
      by true k true z e = moved_plain_span d c s (eqb-true d.kind 0 k) (eqb-true c.code 0 z)
      by true k false z e = absurd (eqb-false c.code 0 z (p (eqb-true d.kind 0 k)))
      by false k true z e = never e
      by false k false z e = moved_span d c s (eqb-false c.code 0 z)

  pub parted : whole d c ≡ false → Parted d c
  unfolding whole
  parted e = by (eqb d.kind 0) refl (eqb c.code 0) refl e
    where
      by : (k : Bool) → eqb d.kind 0 ≡ k → (z : Bool) → eqb c.code 0 ≡ z → (k || not z) ≡ false → Parted d c
      by true k z w e = never (sym e)
      by false k true z e = record { fields = eqb-false d.kind 0 k; zero = eqb-true c.code 0 z }
      by false k false z e = never (sym e)

  pub handed_whole : (s : List ℕ) → whole d c ≡ true → handed d c s ≡ s
  unfolding handed
  handed_whole s e = rw e

  pub handed_parted : (s new : List ℕ) (size n : ℕ) → whole d c ≡ false → size ≡ size_of d → n ≡ intervals_of d → new ≡ user_data size (c.length * n) s → new ≡ handed d c s
  unfolding handed
  handed_parted s new size n e a b m = m ∙ rw (e, a, b)

  pub received_whole : (s : List ℕ) → whole d c ≡ true → received d c s ≡ s
  unfolding received
  received_whole s e = rw e

  pub received_parted : (s : List ℕ) (size n : ℕ) (m : Marks) → whole d c ≡ false → size ≡ size_of d → n ≡ intervals_of d → m ≡ marks_of d c → stored_blocks size n c.length m s ≡ received d c s
  unfolding received
  received_parted s size n m e a b f = rw (e, a, b, f)

  pub stored_whole : (at : ℕ) (s b new : List ℕ) → whole d c ≡ true → new ≡ put at b s → new ≡ put at (received d c b) s
  stored_whole at s b new e n = n ∙ ap (λ (x : List ℕ). put at x s) (sym (received_whole b e))

  pub stored_parted : (at size n : ℕ) (m : Marks) (s b new : List ℕ) → whole d c ≡ false → size ≡ size_of d → n ≡ intervals_of d → m ≡ marks_of d c
      → new ≡ put at (stored_blocks size n c.length m b) s → new ≡ put at (received d c b) s
  stored_parted at size n m s b new e z i f w = w ∙ ap (λ (x : List ℕ). put at x s) (received_parted b size n m e z i f)

-- ---- the parts that taking user data, storing and insert are handed
module _ (d : Description) (c : Command) (size n : ℕ) (z : size ≡ size_of d) (i : n ≡ intervals_of d) where
  pub user_data_fits : (s b : ℕ) → Shaped d c → s ≡ span_of d c.length → Fitted d c b → Parted d c → (c.length * n * (size + 8) ≡ s) × (c.length * n * size ≡ b)
  user_data_fits s b h l f p =
      (rw (z, i) (span_flat d h.described c.length p.fields ∙ sym l), rw (z, i) (moved_flat d c h.described p.zero ∙ sym f.room))

  pub insert_fits : (at s b : ℕ) → Shaped d c → at + span_of d c.length ≤ s → Fitted d c b → Parted d c
      → (c.length * (n * size) ≡ b) × (at + c.length * (n * (size + 8)) ≤ s) × ((size ≤ 4096) × (n ≤ 8))
  insert_fits at s b h l f p = (
    rw (z, i) (moved_intervals d c h.described p.zero ∙ sym f.room),
    rw (z, i, span_intervals d h.described c.length p.fields) l,
    (rw z (sizes d h.described).size_most, rw i (sizes d h.described).intervals_most),
  )

pub store_fits : (d : Description) (c : Command) (stored at s b : ℕ) → stored ≡ stored_of d → Shaped d c → at + span_of d c.length ≤ s → Fitted d c b → whole d c ≡ true
    → (c.length * stored ≡ b) × (at + c.length * stored ≤ s)
unfolding span_of
store_fits d c stored at s b e h l f w =
    (rw e (sym (moved_when_whole d c h.described f.plain w) ∙ sym f.room), rw e l)

pub marks_step : (d : Description) (c : Command) (m : Marks) → m ≡ marks_of d c → m.step ≤ 1
unfolding marks_of
marks_step d c m e = rw e (by (eqb d.kind 3))
  where
    by : (b : Bool) → cond b 0 1 ≤ 1
    by true = lit≤ tt
    by false = lit≤ tt

-- What a good WRITE with 000 has inserted, interval by interval.
-- Assumes nothing.
use Rattle.std.specs.Prelude.{Ok}
use mathlib.Core.Path.{◌≡◌, refl, sym, ap, ◌∙◌}
use mathlib.Core.Logic.{◌⊎◌, inl, inr}
use mathlib.Core.Bool.{Bool, true, false, not, ◌&&◌, cond}
use mathlib.Core.List.{List, [], ◌++◌, append_assoc, append-nil}
use Prim.Native.Nat.{ℕ, zero, suc, ◌+◌, ◌*◌, ◌%◌, ◌^◌, ◌<◌, ◌≤◌}
use native.Mathlib.Nat.{suc-mul, zero-mul, mul-zero, mul-one, add-mul, add-zero, add_assoc, mul-le-mul_right, mod-add-mod, mod-eq_of_lt, mod-lt, le_of_eq}
use native.Mathlib.Omega.{arith}
use borrow.Author.Tests.{eqb-true, eqb-false}
use lib.Dec.{eqb, lit<}
use lib.ListN.{length, take, drop, length-drop}
use lib.Seq.{drop_at}
use Rattle.words.specs.Parts.{Bytes}
use Rattle.words.specs.Runs.{runs}
use Rattle.guard.specs.Guard.{guard}
use Rattle.answer.specs.Answer.{is_good}
use Rattle.answer.specs.Answer as answers
use Rattle.segment.specs.declared.Description.{Description}
use Rattle.segment.specs.Segment.{intervals_of, size_of}
use Rattle.segment.specs.Places.{interval_at}
use Rattle.segment.proofs.Laws.{sizes}
use Rattle.command.specs.declared.Command.{Command}
use Rattle.command.specs.Tags.{long, tag_of}
use Rattle.command.specs.declared.Operation.TheVariants.{Write}
use Rattle.decoding.specs.Commands.{decode}
use Rattle.decoding.proofs.Laws.{Bounded, served_bounded}
use Rattle.guard.proofs.Laws.{guard_lt}
use Rattle.field.specs.Field.{stored_guard, stored_application, stored_reference, field_bytes, data_of, field_of}
use Rattle.field.proofs.Demands.{guard_read_back, application_read_back, reference_read_back}
use Rattle.words.proofs.Turns.{after}
use Rattle.insertion.specs.declared.Marks.{Marks}
use Rattle.insertion.specs.Insertion.{with_field, later, stored_block, stored_blocks}
use Rattle.insertion.proofs.Laws.{interval_length, block_length, interval_read_on, interval_field_on}
use Rattle.blocks.proofs.Pieces.{one_within, rest_within}
use Rattle.words.proofs.Parts.{one_more, drop_more}
use Rattle.rules.specs.Rules.{first_tag}
use Rattle.marks.specs.Inserted.{inserted_reference, marks_of}
use Rattle.admission.specs.Ready.{Ready}
use Rattle.execute.specs.Lent.{Lent, lengths_of}
use Rattle.transfer.specs.Transfer.{blocks_of, received}
use Rattle.execute.specs.Execute.{executed}
use Rattle.demands.specs.Inserted.{inserted_reference_at, user_data_at, InsertedAt}
use Rattle.transfer.proofs.Shapes.{whole_not}
use Rattle.demands.proofs.Accepted.{small_application, small_reference}
use Rattle.demands.proofs.Stored.{enough, inserted}
use Rattle.demands.proofs.Demands.{good_write_stores}

-- ---- the piece at a place, and what lies behind it
within : (j k P : ℕ) (s : List ℕ) → j < k → k * P ≤ length s → P ≤ length (drop (j * P) s)
within j k P s h l = rw length-drop (omega (arith, mul-le-mul_right P h, suc-mul j P))

module _ {M : Type 0} (piece : M → List ℕ → List ℕ) (next : M → M) (P Q : ℕ)
    (long : (m : M) (s : List ℕ) → P ≤ length s → length (piece m s) ≡ Q) where
  piece_there : (k j : ℕ) (m : M) (s rest : List ℕ) → j < k → k * P ≤ length s
      → (behind : List ℕ) × (drop (j * Q) (runs piece next P k m s ++ rest) ≡ piece (after next j m) (drop (j * P) s) ++ behind)
  unfolding runs after
  piece_there zero j m s rest h l = absurd (omega arith)
  piece_there (suc k) zero m s rest h l =
      let others = runs piece next P k (next m) (drop P s) in
      (others ++ rest, rw (zero-mul Q, zero-mul P) (append_assoc (piece m s) others rest))
  piece_there (suc k) (suc j) m s rest h l =
      let others = runs piece next P k (next m) (drop P s) in
      let found = piece_there k j (next m) (drop P s) rest (omega arith) (rest_within k P s l) in
      let past : drop Q ((piece m s ++ others) ++ rest) ≡ others ++ rest =
      ap (drop Q) (append_assoc (piece m s) others rest) ∙ drop_at (piece m s) (others ++ rest) Q (long m s (one_within k P (length s) l)) in (
        found.0,
        sym (drop_more Q j ((piece m s ++ others) ++ rest)) ∙ ap (drop (j * Q)) past ∙ found.1
            ∙ ap (λ (l : List ℕ). piece (after next j (next m)) l ++ found.0) (drop_more P j s),
      )

-- ---- the marks there
abbrev marks_after : ℕ → Marks → Marks
marks_after e m = record { application = m.application; reference = (m.reference + e * m.step) % 2 ^ 32; step = m.step }

tags_add : (r a b x : ℕ) → ((r + a * x) % 2 ^ 32 + b * x) % 2 ^ 32 ≡ (r + (a + b) * x) % 2 ^ 32
tags_add r a b x = mod-add-mod (r + a * x) (2 ^ 32) (b * x) ∙ ap (λ (n : ℕ). n % 2 ^ 32) (add_assoc r (a * x) (b * x) ∙ ap (λ (n : ℕ). r + n) (sym (add-mul a b x)))

later_after : (k j : ℕ) (m : Marks) → m.reference < 2 ^ 32 → after (later k) j m ≡ marks_after (j * k) m
unfolding after
later_after k zero m h = simp (zero-mul, add-zero, mod-eq_of_lt h)
later_after k (suc j) m h =
    later_after k j (later k m) (mod-lt (m.reference + k * m.step) (lit< tt))
    ∙ rw (tags_add m.reference k (j * k) m.step, one_more j k) refl

marks_there : (n j i : ℕ) (m : Marks) → m.reference < 2 ^ 32 → after (later 1) i (after (later n) j m) ≡ marks_after (j * n + i) m
marks_there n j i m h =
    ap (after (later 1) i) (later_after n j m h)
    ∙ later_after 1 i (marks_after (j * n) m) (mod-lt (m.reference + j * n * m.step) (lit< tt))
    ∙ rw (mul-one i, tags_add m.reference (j * n) i m.step) refl

-- ---- the interval there
module _ (size n k : ℕ) (m : Marks) (s : List ℕ) (small : m.reference < 2 ^ 32) (all : k * (n * size) ≤ length s)
    (j i : ℕ) (block : j < k) (interval : i < n) where
  abbrev source : List ℕ
  source = drop (i * size) (drop (j * (n * size)) s)

  abbrev there : List ℕ
  there = drop (i * (size + 8)) (drop (j * (n * (size + 8))) (stored_blocks size n k m s))

  one_block : n * size ≤ length (drop (j * (n * size)) s)
  one_block = within j k (n * size) s block all

  source_long : size ≤ length source
  source_long = within i n size (drop (j * (n * size)) s) interval one_block

  interval_there : (behind : List ℕ) × (there ≡ with_field size (marks_after (j * n + i) m) source ++ behind)
  unfolding stored_blocks stored_block
  interval_there =
      let b = piece_there (stored_block size n) (later n) (n * size) (n * (size + 8)) (block_length size n) k j m s [] block all in
      let v = piece_there (with_field size) (later 1) size (size + 8) (interval_length size) n i (after (later n) j m) (drop (j * (n * size)) s) b.0 interval one_block in (
        v.0,
        ap (drop (i * (size + 8))) (ap (drop (j * (n * (size + 8)))) (sym (append-nil (stored_blocks size n k m s))) ∙ b.1) ∙ v.1
            ∙ ap (λ (x : Marks). with_field size x source ++ v.0) (marks_there n j i m small),
      )

-- its data and its field
module _ (size : ℕ) (m : Marks) (s behind here : List ℕ) (long : size ≤ length s) (e : here ≡ with_field size m s ++ behind) where
  data_there : data_of size here ≡ take size s
  unfolding data_of
  data_there = ap (take size) e ∙ interval_read_on size m s behind long

  field_there : field_of size here ≡ field_bytes (guard (take size s)) m.application m.reference
  field_there = ap (field_of size) e ∙ interval_field_on size m s behind long

-- ---- the reference by the document's sentence
one_two_three : (k : ℕ) → k ≤ 3 → (k ≡ 0 → ⊥) → (k ≡ 1) ⊎ ((k ≡ 2) ⊎ (k ≡ 3))
one_two_three k h n = by (eqb k 1) refl (eqb k 2) refl
  where
    by : (p : Bool) → eqb k 1 ≡ p → (q : Bool) → eqb k 2 ≡ q → (k ≡ 1) ⊎ ((k ≡ 2) ⊎ (k ≡ 3))
    by true e q f = inl (eqb-true k 1 e)
    by false e true f = inr (inl (eqb-true k 2 f))
    by false e false f = let a = eqb-false k 1 e in let b = eqb-false k 2 f in inr (inr (omega arith))

reference_of : (k : ℕ) (l : Bool) (a t n j i : ℕ) → (k ≡ 1) ⊎ ((k ≡ 2) ⊎ (k ≡ 3))
    → (cond (eqb k 1) (a % 2 ^ 32) (cond (eqb k 2) (cond l t (a * n % 2 ^ 32)) 0) + (j * n + i) * cond (eqb k 3) 0 1) % 2 ^ 32
    ≡ cond (eqb k 3) 0 (cond (eqb k 2 && not l) (((a + j) * n + i) % 2 ^ 32) ((cond (eqb k 1) (a % 2 ^ 32) t + (j * n + i)) % 2 ^ 32))
reference_of k l a t n j i (inl e) = rw (e, mul-one) refl
reference_of k true a t n j i (inr (inl e)) = rw (e, mul-one) refl
reference_of k false a t n j i (inr (inl e)) =
    rw (e, mul-one)
    (mod-add-mod (a * n) (2 ^ 32) (j * n + i) ∙ ap (λ (x : ℕ). x % 2 ^ 32) (sym (add_assoc (a * n) (j * n) i) ∙ ap (λ (x : ℕ). x + i) (sym (add-mul a j n))))
reference_of k l a t n j i (inr (inr e)) = rw (e, mul-zero) refl

-- ---- a good WRITE with 000
module _ (d : Description) (command : List ℕ) (l : Lent) (c : Command) (bytes : Bytes command) (served : decode command ≡ Ok c)
    (is-write : c.operation ≡ Write) (zero-code : c.code ≡ 0) (fields : d.kind ≡ 0 → ⊥)
    (good : (executed d command l).answer ≡ answers.good) where
  stored : Ready d c (lengths_of l) × (blocks_of d c (executed d command l).left.segment ≡ received d c l.buffer)
  stored = good_write_stores d command l c served is-write (ap is_good good)

  bounded : Bounded c
  bounded = served_bounded command c served bytes

  reference_is : (j i : ℕ) → (marks_after (j * intervals_of d + i) (marks_of d c)).reference ≡ inserted_reference_at d c j i
  unfolding marks_of inserted_reference first_tag
  reference_is j i =
      reference_of d.kind (long c) c.address (tag_of c) (intervals_of d) j i (one_two_three d.kind stored.0.described.kind fields)

  -- of each interval of the transfer
  pub inserted_fields : (j i : ℕ) → j < c.length → i < intervals_of d → InsertedAt d c (blocks_of d c (executed d command l).left.segment) l.buffer j i
  unfolding marks_of
  inserted_fields j i h k =
      let buffer = l.buffer in
      let size = size_of d in
      let n = intervals_of d in
      let m = marks_after (j * n + i) (marks_of d c) in
      let source = drop (i * size) (drop (j * (n * size)) buffer) in
      let parts = whole_not d c fields zero-code in
      let all = le_of_eq (enough d c l stored.0 is-write parts) in
      let tag = small_reference d c bounded.application bounded.tag in
      let long = source_long size n c.length (marks_of d c) buffer tag all j i h k in
      let found = interval_there size n c.length (marks_of d c) buffer tag all j i h k in
      let made = stored.1 ∙ sym (inserted d c l stored.0 is-write parts) in
      let here = ap (λ (x : List ℕ). interval_at d x j i) made ∙ found.1 in
      let field = field_there size m source found.0 _ long here in
      let same : take size source ≡ user_data_at d buffer j i =
      ap (λ (b : ℕ). take size (drop (i * size) (drop (j * b) buffer))) (sizes d stored.0.described).whole in
      record {
        user = data_there size m source found.0 _ long here ∙ same;
        guarded = ap stored_guard field ∙ guard_read_back _ _ _ (guard_lt (take size source)) ∙ ap guard same;
        application =
            ap stored_application field ∙ application_read_back _ _ _ (small_application d c bounded.application bounded.tag);
        reference =
            ap stored_reference field ∙ reference_read_back _ _ _ (mod-lt ((marks_of d c).reference + (j * n + i) * (marks_of d c).step) (lit< tt))
            ∙ reference_is j i;
      }

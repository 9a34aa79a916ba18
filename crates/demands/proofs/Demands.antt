-- Demands 1 and 2: what holds of every command's outcome, `executed`.
-- Assumes nothing.
use Rattle.std.specs.Prelude.{Ok, Err}
use mathlib.Core.Path.{◌≡◌, refl, sym, ap, ap₂, ◌∙◌}
use mathlib.Core.Logic.{◌↔◌, ◌⊎◌, inl, inr, ⊎_elim}
use mathlib.Core.Bool.{Bool, true, false, not, ◌&&◌, cond, true≢false}
use mathlib.Core.List.{List}
use Prim.Native.Nat.{ℕ, ◌+◌, ◌*◌, ◌^◌, ◌≤◌, ◌<◌}
use native.Mathlib.Nat.{le_of_eq}
use native.Mathlib.Omega.{arith}
use borrow.Author.Tests.{eq-eqb, eqb-true, eqb-false, le-leb}
use lib.Dec.{eqb, leb}
use lib.ListN.{length}
use Rattle.words.specs.Parts.{Bytes}
use Rattle.answer.specs.Answer.{number_of, is_good, for_protection, for_difference, or_else, in_table, Answer}
use Rattle.answer.specs.Outcome.{Outcome, outcome, leaving}
use Rattle.answer.specs.Answer as answers
use Rattle.answer.proofs.Demands.{in_table_lem, refused_leaves}
use Rattle.answer.proofs.Ladder.{good_or, good_is, or_else_good}
use Rattle.segment.specs.declared.Description.{Description}
use Rattle.segment.specs.Segment.{intervals_of, size_of}
use Rattle.segment.specs.Rules.{segment_rules}
use Rattle.segment.specs.Places.{interval_at}
use Rattle.field.specs.Field.{data_of, field_of}
use Rattle.command.specs.declared.Command.{Command}
use Rattle.command.specs.declared.Operation.{Operation}
use Rattle.command.specs.declared.Operation.TheVariants.{Read, Write, Verify}
use Rattle.command.specs.Compares.{is_verify, compares}
use Rattle.command.proofs.CommandLaws.{not_verify}
use Rattle.decoding.specs.Commands.{decode}
use Rattle.decoding.specs.Bits.{SameCommand}
use Rattle.decoding.proofs.Laws.{Bounded, served_bounded}
use Rattle.decoding.proofs.Demands.{same_command}
use Rattle.interval.specs.Interval.{guard_wrong, application_wrong, reference_wrong, judge_interval}
use Rattle.interval.specs.Verdict.{Verdict}
use Rattle.judge.specs.Judge.{judge_blocks}
use Rattle.sides.specs.declared.Side.{Side}
use Rattle.sides.specs.declared.Side.TheVariants.{Sent, Stored}
use Rattle.sides.specs.Sides.{checks_on}
use Rattle.sides.proofs.Laws.{sent_none, checked_none, checked_plain}
use Rattle.rules.specs.Rules.{rules_of, start_of, first_tag}
use Rattle.rules.specs.Intervals.{place_at, verdict_at}
use Rattle.rules.proofs.Places.{tag_small}
use Rattle.refusal.specs.declared.Lengths.{Lengths}
use Rattle.refusal.specs.Refusal.{long_rule, other_rule, plain_rule, type_rules, code_rule, check_rule, size_rule, moved_of, buffer_of, buffer_rule, refusal}
use Rattle.admission.specs.Admission.{behind, Decided, admitted}
use Rattle.admission.specs.Ready.{Ready}
use Rattle.admission.proofs.Ready.{admitted_served, admitted_ready}
use Rattle.execute.specs.Lent.{Lent, lent, lengths_of}
use Rattle.transfer.specs.Transfer.{blocks_of, judged_on, judged, compared, verdict, whole, handed, received}
use Rattle.transfer.proofs.Shapes.{whole_code, whole_not, received_whole, judged_none, judged_all}
use Rattle.transfer.proofs.Comparing.{compared_none}
use Rattle.execute.specs.Execute.{under_check, overwritten, moved_for, moved, performed, executed_as, executed}
use Rattle.demands.specs.Compared.{Alike, Beside, as_read}
use Rattle.demands.specs.Checked.{FirstNamed, AllRight, WrongInterval}
use Rattle.demands.specs.Different.{AllSame, FirstDifferent, DifferentBlock}
use Rattle.demands.proofs.Wrong.{side_good, side_wrong, interval_verdict}
use Rattle.demands.proofs.Accepted.{inserted_accepted, received_accepted}
use Rattle.demands.proofs.Same.{all_same, first_different}
use Rattle.demands.proofs.InOrder.{not_in_order_names_no_interval, not_in_order_names_no_block}
use Rattle.demands.proofs.Stored.{enough, inserted, beside_itself, overwritten_beside, overwritten_there, handed_back, same_blocks}

-- the verdict on what is lent
abbrev ruling : Description → Command → Lent → Answer
ruling d c l = verdict d c (under_check Sent d c l) (under_check Stored d c l)

-- ---- what an operation leaves alone, and what it does
module _ (a : Answer) (d : Description) (c : Command) (l : Lent) where
  abbrev doing : Operation → Outcome Lent
  doing o = leaving a l (moved_for o d c l)

  -- what holds of what was lent, and of what a good command leaves, holds of what is left
  left_by : (P : Lent → Type 0) → P l → (o : Operation) → P (moved_for o d c l) → P (doing o).left
  left_by P before o after = by (is_good a)
    where
      by : (g : Bool) → P (cond g (moved_for o d c l) l)
      by true = after
      by false = before

  segment_for : (o : Operation) → (o ≡ Write → ⊥) → (moved_for o d c l).segment ≡ l.segment
  segment_for Read n = refl
  segment_for Write n = absurd (n refl)
  segment_for Verify n = refl

  buffer_for : (o : Operation) → (o ≡ Read → ⊥) → (moved_for o d c l).buffer ≡ l.buffer
  buffer_for Read n = absurd (n refl)
  buffer_for Write n = refl
  buffer_for Verify n = refl

  beside_for : (o : Operation) → (o ≡ Write → Beside d c l.segment (overwritten d c l)) → Beside d c l.segment (moved_for o d c l).segment
  beside_for Read f = beside_itself d c l.segment
  beside_for Verify f = beside_itself d c l.segment
  beside_for Write f = f refl

  stored_for : (o : Operation) → o ≡ Write → is_good (doing o).answer ≡ true → (doing o).left.segment ≡ overwritten d c l
  stored_for o e = rw e (λ g. rw g refl)

  handed_for : (o : Operation) → o ≡ Read → is_good (doing o).answer ≡ true → (doing o).left.buffer ≡ handed d c (blocks_of d c l.segment)
  handed_for o e = rw e (λ g. rw g refl)

-- two segments with the same blocks of the transfer, two buffers
module _ (d : Description) (c : Command) (l m : Lent) (e : blocks_of d c l.segment ≡ blocks_of d c m.segment) where
  judged_alike : (c.operation ≡ Write → ⊥) → (compares c ≡ true → l.buffer ≡ m.buffer) → ruling d c l ≡ ruling d c m
  unfolding verdict judged
  judged_alike n sent = by (compares c) refl
    where
      by : (b : Bool) → compares c ≡ b → ruling d c l ≡ ruling d c m
      by true on = ap₂ (verdict d c) (sent on) e
      by false off =
          let none = checked_none Sent d c (sent_none c.operation c n off) in
          ap₂ or_else (ap₂ or_else (judged_none Sent d c l.buffer none ∙ sym (judged_none Sent d c m.buffer none)) (ap (judged_on Stored d c) e))
          (compared_none d c _ _ off ∙ sym (compared_none d c _ _ off))

  performed_alike : (c.operation ≡ Write → ⊥) → (compares c ≡ true → l.buffer ≡ m.buffer) → Alike c (performed d c l) (performed d c m)
  unfolding performed moved
  performed_alike n sent =
      let same = judged_alike n sent in
      record {
        answer = same;
        filled =
            λ r g.
            handed_for (ruling d c l) d c l c.operation r g
            ∙ ap (handed d c) e ∙ sym (handed_for (ruling d c m) d c m c.operation r (ap is_good (sym same) ∙ g));
      }

-- ---- what a served command's admission can be
abbrev Settled : Command → Decided → Type 0
Settled c (Err e) = Unit {0}
Settled c (Ok k) = k ≡ c

settled : (c : Command) (x r : Answer) → Settled c (behind x (behind r (Ok c)))
settled c (Ok u) (Ok v) = refl
settled c (Ok u) (Err e) = tt
settled c (Err e) r = tt

module _ (d : Description) (command : List ℕ) (l : Lent) where
  -- every input gets an answer of the table
  pub one_answer : in_table (number_of (executed d command l).answer) ≡ true
  one_answer = in_table_lem (executed d command l).answer

  -- "Any answer but 0 changes no lent byte": a refused READ leaves the buffer, a refused WRITE the segment
  pub refused_leaves_all : is_good (executed d command l).answer ≡ false → (executed d command l).left ≡ l
  unfolding executed performed moved
  refused_leaves_all = by (admitted d (lengths_of l) command)
    where
      by : (x : Decided) → is_good (executed_as x d l).answer ≡ false → (executed_as x d l).left ≡ l
      by (Err a) w = refl
      by (Ok c) w = refused_leaves (ruling d c l) l (moved_for c.operation d c l) w

  module _ (c : Command) (served : decode command ≡ Ok c) where
    admitted_settled : Settled c (admitted d (lengths_of l) command)
    unfolding admitted
    admitted_settled = rw served (settled c (segment_rules d (length l.segment)) (refusal d c (lengths_of l)))

    -- what holds where nothing was done, and of a transfer that was admitted, holds of the command's outcome
    pub served_outcome : (P : Outcome Lent → Type 0) → ((a : Answer) → is_good a ≡ false → P (outcome a l))
        → (Ready d c (lengths_of l) → P (performed d c l)) → P (executed d command l)
    unfolding executed
    served_outcome P none some = by (admitted d (lengths_of l) command) refl admitted_settled
      where
        by : (x : Decided) → admitted d (lengths_of l) command ≡ x → Settled c x → P (executed_as x d l)
        by (Err a) e s = none (Err a) refl
        by (Ok k) e s = rw s (some (rw s at (admitted_ready d (lengths_of l) command k e)))

    -- a good command was in order
    pub good_in_order : is_good (executed d command l).answer ≡ true → admitted d (lengths_of l) command ≡ Ok c
    unfolding executed
    good_in_order = by (admitted d (lengths_of l) command) refl admitted_settled
      where
        by : (x : Decided) → admitted d (lengths_of l) command ≡ x → Settled c x → is_good (executed_as x d l).answer ≡ true
            → admitted d (lengths_of l) command ≡ Ok c
        by (Err a) e s g = absurd (true≢false (sym g))
        by (Ok k) e s g = e ∙ ap Ok s

    -- "A READ or VERIFY never changes the segment."
    pub read_or_verify_leaves_segment : (c.operation ≡ Write → ⊥) → (executed d command l).left.segment ≡ l.segment
    unfolding performed moved
    read_or_verify_leaves_segment n =
        served_outcome (λ o. o.left.segment ≡ l.segment) (λ a g. refl)
        (λ r. left_by (ruling d c l) d c l (λ x. x.segment ≡ l.segment) refl c.operation (segment_for (ruling d c l) d c l c.operation n))

    -- the buffer is a READ's answer alone
    pub write_or_verify_leaves_buffer : (c.operation ≡ Read → ⊥) → (executed d command l).left.buffer ≡ l.buffer
    unfolding performed moved
    write_or_verify_leaves_buffer n =
        served_outcome (λ o. o.left.buffer ≡ l.buffer) (λ a g. refl)
        (λ r. left_by (ruling d c l) d c l (λ x. x.buffer ≡ l.buffer) refl c.operation (buffer_for (ruling d c l) d c l c.operation n))

    -- "On a good WRITE the transfer's own blocks of the segment are overwritten and no other"
    pub good_write_keeps_other_blocks : Beside d c l.segment (executed d command l).left.segment
    unfolding performed moved
    good_write_keeps_other_blocks =
        served_outcome (λ o. Beside d c l.segment o.left.segment) (λ a g. beside_itself d c l.segment)
        (λ r. left_by (ruling d c l) d c l (λ x. Beside d c l.segment x.segment) (beside_itself d c l.segment) c.operation
        (beside_for (ruling d c l) d c l c.operation (overwritten_beside d c l r)))

    -- "received fields are stored as received"; with 000 they are inserted
    pub good_write_stores : c.operation ≡ Write → is_good (executed d command l).answer ≡ true
        → Ready d c (lengths_of l) × (blocks_of d c (executed d command l).left.segment ≡ received d c l.buffer)
    unfolding performed moved
    good_write_stores w =
        served_outcome
        (λ o. is_good o.answer ≡ true → Ready d c (lengths_of l) × (blocks_of d c o.left.segment ≡ received d c l.buffer))
        (λ a b g. absurd (true≢false (sym g ∙ b)))
        (λ r g. (r, ap (blocks_of d c) (stored_for (ruling d c l) d c l c.operation w g) ∙ overwritten_there d c l r w))

    -- "A good READ fills its buffer with the transfer's blocks in order"
    pub good_read_hands_out : c.operation ≡ Read → is_good (executed d command l).answer ≡ true
        → (executed d command l).left.buffer ≡ handed d c (blocks_of d c l.segment)
    unfolding performed moved
    good_read_hands_out w =
        served_outcome (λ o. is_good o.answer ≡ true → o.left.buffer ≡ handed d c (blocks_of d c l.segment))
        (λ a b g. absurd (true≢false (sym g ∙ b)))
        (λ r g. handed_for (ruling d c l) d c l c.operation w g)

-- "The answer of a READ or VERIFY depends on the description, the command, the lengths and the transfer's blocks, on no other block."; of
-- document 02, "such an answer depends on the sent buffer too", where the command compares
pub own_blocks_alone : (d : Description) (command : List ℕ) (l m : Lent) (c : Command) → decode command ≡ Ok c → (c.operation ≡ Write → ⊥)
    → lengths_of l ≡ lengths_of m → blocks_of d c l.segment ≡ blocks_of d c m.segment → (compares c ≡ true → l.buffer ≡ m.buffer)
    → Alike c (executed d command l) (executed d command m)
unfolding executed
own_blocks_alone d command l m c served n long e sent =
    rw (← long) (by (admitted d (lengths_of l) command) (admitted_settled d command l c served))
  where
    by : (x : Decided) → Settled c x → Alike c (executed_as x d l) (executed_as x d m)
    by (Err a) t = record { answer = refl; filled = λ r g. absurd (true≢false (sym g)) }
    by (Ok k) t = rw t (performed_alike d c l m e n sent)

-- "No other bit changes an answer.": commands that differ in no bit of the table's have one outcome, the answer with its
-- numbers and every lent byte, on every segment and buffer
pub no_other_bit : (d : Description) (c c' : List ℕ) (l : Lent) → SameCommand c c' → executed d c l ≡ executed d c' l
unfolding executed admitted
no_other_bit d c c' l s = rw (same_command c c' s) refl

-- a READ after a WRITE of the same blocks, both good
module _ (d : Description) (writing : List ℕ) (l : Lent) (reading out : List ℕ) (w k : Command)
    (writes : decode writing ≡ Ok w) (is-write : w.operation ≡ Write) (good-write : is_good (executed d writing l).answer ≡ true)
    (reads : decode reading ≡ Ok k) (is_read : k.operation ≡ Read)
    (good-read : is_good (executed d reading (lent (executed d writing l).left.segment out)).answer ≡ true)
    (address : k.address ≡ w.address) (long : k.length ≡ w.length) where
  abbrev now : List ℕ
  now = (executed d writing l).left.segment

  stored : Ready d w (lengths_of l) × (blocks_of d w now ≡ received d w l.buffer)
  stored = good_write_stores d writing l w writes is-write good-write

  -- it hands out what was stored
  pub read_gives_what_was_stored : (executed d reading (lent now out)).left.buffer ≡ handed d k (received d w l.buffer)
  read_gives_what_was_stored =
      good_read_hands_out d reading (lent now out) k reads is_read good-read ∙ ap (handed d k) (same_blocks d w k now address long ∙ stored.1)

  -- and gives back what was written: the user data where both are 000, the whole blocks where neither is
  pub read_after_write : whole d k ≡ whole d w → (executed d reading (lent now out)).left.buffer ≡ l.buffer
  read_after_write same = read_gives_what_was_stored ∙ handed_back d w l stored.0 is-write k long same

-- ---- demand 2: a transfer otherwise in order is refused for protection exactly when an interval under check is wrong

wrong_is : (a : Answer) → for_protection a ≡ true → is_good a ≡ false
wrong_is a p = ⊎_elim (λ g. absurd (true≢false (sym p ∙ ap for_protection g))) (λ w. w) (good_or a)

between : (n : ℕ) → 8 ≤ n → n ≤ 10 → leb 8 n && leb n 10 ≡ true
between n l m = rw (le-leb 8 n l, le-leb n 10 m)

fifteen_for_no_field : (a : Answer) → number_of a ≡ 15 → for_protection a ≡ false
fifteen_for_no_field a e = rw e

fifteen_is_not_good : (a : Answer) → for_difference a ≡ true → is_good a ≡ false
fifteen_is_not_good a p = ⊎_elim (λ g. absurd (true≢false (sym p ∙ ap for_difference g))) (λ w. w) (good_or a)

-- the interval that is named is wrong
named_is_wrong : (d : Description) (c : Command) (l : Lent) (a : Answer) (f : FirstNamed d c l a) → ((side : Side) → AllRight side d c l) → ⊥
named_is_wrong d c l a f right =
    let w = f.first in
    let wrong : is_good (verdict_at f.side d c (under_check f.side d c l) w.block w.interval) ≡ false = rw w.checked (ap is_good w.here ∙ w.wrong) in
    true≢false (sym (ap is_good (right f.side w.block w.interval w.block_within w.interval_within)) ∙ wrong)

module _ (d : Description) (command : List ℕ) (l : Lent) (c : Command)
    (bytes : Bytes command) (in_order : admitted d (lengths_of l) command ≡ Ok c) where
  small : first_tag d c < 2 ^ 32
  small = tag_small d c (served_bounded command c (admitted_served d (lengths_of l) command c in_order) bytes).tag

  abbrev judged_side : Side → Answer
  judged_side side = judged_on side d c (under_check side d c l)

  abbrev compared_here : Answer
  compared_here = compared d c (under_check Sent d c l) (under_check Stored d c l)

  answer_is : (executed d command l).answer ≡ or_else (or_else (judged_side Sent) (judged_side Stored)) compared_here
  unfolding executed performed moved verdict judged
  answer_is = rw in_order refl

  right_side : (side : Side) → (judged_side side ≡ answers.good) ↔ AllRight side d c l
  right_side side = side_good side d c (under_check side d c l) small

  right_sides : (or_else (judged_side Sent) (judged_side Stored) ≡ answers.good) ↔ ((side : Side) → AllRight side d c l)
  right_sides =
      let both = or_else_good (judged_side Sent) (judged_side Stored) in
      (λ e. each (both.0 e), λ f. both.1 ((right_side Sent).1 (f Sent), (right_side Stored).1 (f Stored)))
    where
      each : (judged_side Sent ≡ answers.good) × (judged_side Stored ≡ answers.good) → (side : Side) → AllRight side d c l
      each two Sent = (right_side Sent).0 two.0
      each two Stored = (right_side Stored).0 two.1

  -- good exactly when every interval under check is right and, where it compares, every block is the one sent
  pub good_exactly_when_right_and_same : ((executed d command l).answer ≡ answers.good) ↔ (((side : Side) → AllRight side d c l) × AllSame d c l)
  good_exactly_when_right_and_same =
      let both = or_else_good (or_else (judged_side Sent) (judged_side Stored)) compared_here in
      let same = all_same d c l in
      rw answer_is
      (λ e. let two = both.0 e in (right_sides.0 two.0, same.0 two.1), λ f. both.1 (right_sides.1 f.0, same.1 f.1))

  -- "a transfer with no wrong interval is good", and no other is
  pub good_exactly_when_all_right : compares c ≡ false → ((executed d command l).answer ≡ answers.good) ↔ ((side : Side) → AllRight side d c l)
  good_exactly_when_all_right off =
      let all = good_exactly_when_right_and_same in
      (λ e. (all.0 e).0, λ f. all.1 (f, λ on. absurd (true≢false (sym on ∙ off))))

  names_the_first : is_good (or_else (judged_side Sent) (judged_side Stored)) ≡ false → FirstNamed d c l (or_else (judged_side Sent) (judged_side Stored))
  names_the_first w = by w (good_or (judged_side Sent))
    where
      by : is_good (or_else (judged_side Sent) (judged_side Stored)) ≡ false → (judged_side Sent ≡ answers.good) ⊎ (is_good (judged_side Sent) ≡ false)
          → FirstNamed d c l (or_else (judged_side Sent) (judged_side Stored))
      by w (inl g) =
          rw g
          (record {
            side = Stored;
            sent_right = λ e. (right_side Sent).0 g;
            first = side_wrong Stored d c (under_check Stored d c l) small (rw g at w);
          })
      by w (inr n) =
          rw n
          (record {
            side = Sent;
            sent_right = λ e. let z : ◌≡◌ {A = ℕ} 0 1 = cc in absurd (omega arith);
            first = side_wrong Sent d c (under_check Sent d c l) small n;
          })

  -- every answer to a transfer in order: good, or its first wrong interval is named, or, all being right, the first block that differs
  pub refused_names : is_good (executed d command l).answer ≡ false
      → FirstNamed d c l (executed d command l).answer ⊎ (((side : Side) → AllRight side d c l) × (compares c ≡ true) × FirstDifferent d c l (executed d command l).answer)
  refused_names = rw answer_is (λ w. by w (good_or (or_else (judged_side Sent) (judged_side Stored))))
    where
      by : is_good (or_else (or_else (judged_side Sent) (judged_side Stored)) compared_here) ≡ false
          → (or_else (judged_side Sent) (judged_side Stored) ≡ answers.good) ⊎ (is_good (or_else (judged_side Sent) (judged_side Stored)) ≡ false)
          → FirstNamed d c l (or_else (or_else (judged_side Sent) (judged_side Stored)) compared_here)
          ⊎ (((side : Side) → AllRight side d c l) × (compares c ≡ true) × FirstDifferent d c l (or_else (or_else (judged_side Sent) (judged_side Stored)) compared_here))
      by w (inl g) = rw g (let d = first_different d c l (rw g at w) in inr (right_sides.0 g, d.0, d.1))
      by w (inr n) = rw n (inl (names_the_first n))

  -- 8, 9 or 10 with the first wrong interval's address and place: all before it are right
  pub protection_names_the_first_wrong : for_protection (executed d command l).answer ≡ true → FirstNamed d c l (executed d command l).answer
  protection_names_the_first_wrong p =
      ⊎_elim (λ f. f) (λ two. absurd (true≢false (sym p ∙ fifteen_for_no_field (executed d command l).answer two.2.number))) (refused_names (wrong_is (executed d command l).answer p))

  pub refused_names_the_first_wrong : compares c ≡ false → is_good (executed d command l).answer ≡ false → FirstNamed d c l (executed d command l).answer
  refused_names_the_first_wrong off w = ⊎_elim (λ f. f) (λ three. absurd (true≢false (sym three.1 ∙ off))) (refused_names w)

  -- 15 with the address of the first block that differs: all before it are the same
  pub difference_names_the_first_different : for_difference (executed d command l).answer ≡ true → FirstDifferent d c l (executed d command l).answer
  difference_names_the_first_different p =
      let answered = (executed d command l).answer in
      ⊎_elim
      (λ f. absurd (true≢false (sym (between (number_of answered) f.first.names.least f.first.names.most) ∙ fifteen_for_no_field answered (eqb-true (number_of answered) 15 p))))
      (λ three. three.2)
      (refused_names (fifteen_is_not_good answered p))

  -- "in one interval guard, application, reference": of each, what its verdict says
  pub guard_application_reference : (side : Side) (j i : ℕ)
      → let r = rules_of side d c in
      let s = interval_at d (under_check side d c l) j i in
      let f = field_of (size_of d) s in
      Verdict (guard_wrong r (data_of (size_of d) s) f) (application_wrong r f) (reference_wrong r (place_at d c j i) f)
      (c.address + j) (j * intervals_of d + i) (judge_interval r (place_at d c j i) s)
  unfolding rules_of
  guard_application_reference side j i =
      interval_verdict (rules_of side d c) (place_at d c j i) (interval_at d (under_check side d c l) j i)

-- ---- a command in order or not

module _ (d : Description) (command : List ℕ) (l : Lent) (bytes : Bytes command) where
  abbrev answered : Answer
  answered = (executed d command l).answer

  refused_is_wrong : for_protection answered ≡ true → (x : Decided) → admitted d (lengths_of l) command ≡ x → WrongInterval d command l
  unfolding executed
  refused_is_wrong p (Err a) e =
      absurd
      (true≢false
      (sym p ∙ ap (λ (x : Decided). for_protection (executed_as x d l).answer) e ∙ not_in_order_names_no_interval d (lengths_of l) command a e))
  refused_is_wrong p (Ok c) e =
      let first = protection_names_the_first_wrong d command l c bytes e p in
      let f = first.first in
      record {
        transfer = c;
        in_order = e;
        side = first.side;
        block = f.block;
        interval = f.interval;
        block_within = f.block_within;
        interval_within = f.interval_within;
        wrong = rw f.checked (ap is_good f.here ∙ f.wrong);
      }

  wrong_is_refused : WrongInterval d command l → for_protection answered ≡ true
  wrong_is_refused w =
      let c = w.transfer in
      let all = good_exactly_when_right_and_same d command l c bytes w.in_order in
      let not_right : ((side : Side) → AllRight side d c l) → ⊥ =
      λ right. true≢false (sym (ap is_good (right w.side w.block w.interval w.block_within w.interval_within)) ∙ w.wrong) in
      let wrong : is_good answered ≡ false = ⊎_elim (λ g. absurd (not_right (all.0 g).0)) (λ b. b) (good_or answered) in
      ⊎_elim (λ f. between (number_of answered) f.first.names.least f.first.names.most) (λ two. absurd (not_right two.0))
      (refused_names d command l c bytes w.in_order wrong)

  -- "refused for protection exactly when an interval under check is wrong", of every command
  pub refused_exactly_when_wrong : (for_protection (executed d command l).answer ≡ true) ↔ WrongInterval d command l
  refused_exactly_when_wrong = (λ p. refused_is_wrong p (admitted d (lengths_of l) command) refl, wrong_is_refused)

  differs_is_different : for_difference answered ≡ true → (x : Decided) → admitted d (lengths_of l) command ≡ x → DifferentBlock d command l
  unfolding executed
  differs_is_different p (Err a) e =
      absurd
      (true≢false
      (sym p ∙ ap (λ (x : Decided). for_difference (executed_as x d l).answer) e ∙ not_in_order_names_no_block d (lengths_of l) command a e))
  differs_is_different p (Ok c) e =
      ⊎_elim
      (λ f. absurd (true≢false (sym (between (number_of answered) f.first.names.least f.first.names.most) ∙ fifteen_for_no_field answered (eqb-true _ _ p))))
      (λ three. let f = three.2 in record { transfer = c; in_order = e; comparing = three.1; right = three.0; block = f.block; within = f.within; different = f.here })
      (refused_names d command l c bytes e (fifteen_is_not_good answered p))

  different_differs : DifferentBlock d command l → for_difference answered ≡ true
  different_differs w =
      let c = w.transfer in
      let all = good_exactly_when_right_and_same d command l c bytes w.in_order in
      let refused : is_good answered ≡ false = ⊎_elim (λ g. absurd (w.different ((all.0 g).1 w.comparing w.block w.within))) (λ b. b) (good_or answered) in
      ⊎_elim
      (λ f. absurd (named_is_wrong d c l answered f w.right))
      (λ three. eq-eqb (number_of answered) 15 three.2.number)
      (refused_names d command l c bytes w.in_order refused)

  -- 15 exactly when a transfer in order compares, every interval under check is right and a block differs, of every command
  pub differs_exactly_when_different : (for_difference (executed d command l).answer ≡ true) ↔ DifferentBlock d command l
  differs_exactly_when_different = (λ p. differs_is_different p (admitted d (lengths_of l) command) refl, different_differs)

-- ---- a READ that asks as a good WRITE asked is good

refusal_same : (d : Description) (c : Command) (l : Lengths) → is_verify c.operation ≡ false → refusal d (as_read c) l ≡ refusal d c l
unfolding refusal type_rules long_rule other_rule plain_rule code_rule check_rule size_rule moved_of buffer_rule buffer_of
refusal_same d c l v = rw v

passed : (x r r' : Answer) (c k : Command) → r' ≡ r → behind x (behind r (Ok c)) ≡ Ok c → behind x (behind r' (Ok k)) ≡ Ok k
passed (Ok u) (Ok v) r' c k same e = rw same refl
passed (Ok u) (Err f) r' c k same e = let z : ◌≡◌ {A = ℕ} 0 1 = cc in absurd (omega arith)
passed (Err f) r r' c k same e = let z : ◌≡◌ {A = ℕ} 0 1 = cc in absurd (omega arith)

-- what a good WRITE tells
module _ (d : Description) (writing : List ℕ) (l : Lent) (w : Command) (bytes : Bytes writing)
    (writes : decode writing ≡ Ok w) (is-write : w.operation ≡ Write) (good-write : is_good (executed d writing l).answer ≡ true) where
  write_went : admitted d (lengths_of l) writing ≡ Ok w
  write_went = good_in_order d writing l w writes good-write

  -- a command whose fields are as much in order goes on, on the segment that is left
  pub goes_on_after : (command buffer : List ℕ) (k : Command) → decode command ≡ Ok k → length buffer ≡ length l.buffer
      → refusal d k (lengths_of l) ≡ refusal d w (lengths_of l) → admitted d (lengths_of (lent (executed d writing l).left.segment buffer)) command ≡ Ok k
  unfolding admitted
  goes_on_after command buffer k served room same =
      let lengths : lengths_of (lent (executed d writing l).left.segment buffer) ≡ lengths_of l = rw ((good_write_keeps_other_blocks d writing l w writes).long, room) in
      ap (λ (x : Lengths). admitted d x command) lengths
      ∙ rw served
      (passed (segment_rules d (length l.segment)) (refusal d w (lengths_of l)) (refusal d k (lengths_of l)) w k same
      (rw writes at write_went))

  pub was_stored : Ready d w (lengths_of l) × (blocks_of d w (executed d writing l).left.segment ≡ received d w l.buffer)
  was_stored = good_write_stores d writing l w writes is-write good-write

  pub write_judged : judged_on Sent d w l.buffer ≡ answers.good
  unfolding executed performed moved verdict judged
  write_judged =
      ((or_else_good (judged_on Sent d w l.buffer) _).0
      ((or_else_good (judged d w l.buffer (blocks_of d w l.segment)) _).0 (good_is _ (rw write_went at good-write))).0).0

  -- the blocks that were stored, judged as stored ones
  pub accepted : judged_on Stored d (as_read w) (received d w l.buffer) ≡ answers.good
  accepted = by (eqb d.kind 0) refl (eqb w.code 0) refl
    where
      bounded : Bounded w
      bounded = served_bounded writing w writes bytes

      by : (k : Bool) → eqb d.kind 0 ≡ k → (z : Bool) → eqb w.code 0 ≡ z → judged_on Stored d (as_read w) (received d w l.buffer) ≡ answers.good
      by true k z e = judged_none Stored d (as_read w) _ (checked_plain Stored d (as_read w) (eqb-true d.kind 0 k))
      by false k true e =
          let parts = whole_not d w (eqb-false d.kind 0 k) (eqb-true w.code 0 e) in
          judged_all Stored d (as_read w) _ (eqb-false d.kind 0 k) refl
          ∙ ap (judge_blocks (rules_of Stored d (as_read w)) w.length (start_of d (as_read w))) (sym (inserted d w l was_stored.0 is-write parts))
          ∙ inserted_accepted d w bounded.application bounded.tag l.buffer (le_of_eq (enough d w l was_stored.0 is-write parts))
      by false k false e =
          let n = eqb-false d.kind 0 k in
          let sends : checks_on Sent w.operation w ≡ true = ap (λ (o : Operation). checks_on Sent o w) is-write ∙ ap not e in
          judged_all Stored d (as_read w) _ n refl
          ∙ ap (judge_blocks (rules_of Stored d (as_read w)) w.length (start_of d (as_read w))) (received_whole d w l.buffer (whole_code d w n (eqb-false w.code 0 e)))
          ∙ received_accepted d w l.buffer w.length (tag_small d w bounded.tag) (sym (judged_all Sent d w l.buffer n sends) ∙ write_judged)

module _ (d : Description) (writing : List ℕ) (l : Lent) (reading out : List ℕ) (w : Command) (bytes : Bytes writing)
    (writes : decode writing ≡ Ok w) (is-write : w.operation ≡ Write) (good-write : is_good (executed d writing l).answer ≡ true)
    (reads : decode reading ≡ Ok (as_read w)) (room : length out ≡ length l.buffer) where
  abbrev then : Lent
  then = lent (executed d writing l).left.segment out

  read_went : admitted d (lengths_of then) reading ≡ Ok (as_read w)
  read_went = goes_on_after d writing l w bytes writes is-write good-write reading out (as_read w) reads room (refusal_same d w (lengths_of l) (ap is_verify is-write))

  read_good : (executed d reading then).answer ≡ answers.good
  unfolding executed performed moved verdict judged
  read_good =
      rw read_went
      ((or_else_good (judged d (as_read w) out (blocks_of d (as_read w) then.segment)) _).1 (
        (or_else_good (judged_on Sent d (as_read w) out) _).1 (
          judged_none Sent d (as_read w) out (checked_none Sent d (as_read w) refl),
          ap (judged_on Stored d (as_read w)) (same_blocks d w (as_read w) then.segment refl refl ∙ (was_stored d writing l w bytes writes is-write good-write).1)
              ∙ accepted d writing l w bytes writes is-write good-write,
        ),
        compared_none d (as_read w) _ _ (not_verify (as_read w) refl),
      ))

  -- the same address, length, protect code and tags: the READ is good, and gives back the WRITE's buffer
  pub written_reads_back : ((executed d reading (lent (executed d writing l).left.segment out)).answer ≡ answers.good)
      × ((executed d reading (lent (executed d writing l).left.segment out)).left.buffer ≡ l.buffer)
  unfolding whole
  written_reads_back =
      (read_good, read_after_write d writing l reading out w (as_read w) writes is-write good-write reads refl (ap is_good read_good) refl refl refl)

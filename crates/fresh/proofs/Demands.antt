-- A freshly filled segment of types 1 to 3 reads good under every code that its type allows, every interval skipped.
-- Assumes nothing.
use Rattle.std.specs.Prelude.{Ok}
use mathlib.Core.Path.{◌≡◌, refl, sym, ap, ◌∙◌}
use mathlib.Core.Bool.{Bool, true, false, cond}
use mathlib.Core.List.{List}
use Prim.Native.Nat.{ℕ, zero, suc, ◌+◌, ◌*◌, ◌≤◌, ◌<◌}
use native.Mathlib.Nat.{zero-mul}
use native.Mathlib.Omega.{arith}
use borrow.Author.Tests.{eq-eqb, eqb-true, eqb-false, le-ltb}
use lib.Dec.{eqb}
use lib.ListN.{length, replicate}
use Rattle.words.specs.BigEndian.{number_from, number, number_at}
use Rattle.answer.specs.Answer.{is_good}
use Rattle.answer.specs.Answer as answers
use Rattle.answer.proofs.Ladder.{or_else_good}
use Rattle.segment.specs.declared.Description.{Description}
use Rattle.segment.specs.Segment.{IsSegment, intervals_of, size_of, stored_of}
use Rattle.segment.specs.Places.{interval_at}
use Rattle.segment.proofs.Laws.{sizes}
use Rattle.segment.proofs.Rules.{described_rule, length_right}
use Rattle.segment.proofs.Places.{inside}
use Rattle.command.specs.declared.Command.{Command}
use Rattle.command.specs.declared.Operation.{Operation}
use Rattle.command.specs.declared.Operation.TheVariants.{Read, Write}
use Rattle.command.specs.Compares.{is_verify, compares}
use Rattle.command.proofs.CommandLaws.{not_verify, other_bits}
use Rattle.decoding.specs.Commands.{decode}
use Rattle.interval.specs.declared.Escape.{Escape}
use Rattle.interval.specs.declared.Escape.TheVariants.{Tag, Both}
use Rattle.field.specs.Field.{stored_application, stored_reference, field_of}
use Rattle.interval.specs.Interval.{escapes, any_escapes}
use Rattle.judge.specs.Judge.{judge_block, judge_blocks, next_block}
use Rattle.judge.proofs.FirstLaws.{first_good}
use Rattle.judge.proofs.BlockLaws.{block_escaped}
use Rattle.blocks.specs.Blocks.{user_data}
use Rattle.sides.specs.declared.Side.TheVariants.{Sent, Stored}
use Rattle.sides.proofs.Laws.{stored_all, sent_none, checked_none}
use Rattle.rules.specs.Rules.{escape_of, rules_of, start_of}
use Rattle.rules.specs.Intervals.{skipped}
use Rattle.filling.specs.Fresh.{fresh_intervals, filled}
use Rattle.refusal.specs.declared.Lengths.{Lengths}
use Rattle.refusal.specs.Refusal.{check_rule, moved_of, size_rule, buffer_of, buffer_rule, refusal}
use Rattle.refusal.proofs.Rules.{moved_plain, moved_whole, moved_most, room_moved}
use Rattle.admission.specs.Admission.{admitted}
use Rattle.admission.specs.Ready.{Ready}
use Rattle.admission.proofs.Ready.{admitted_served, admitted_ready}
use Rattle.transfer.specs.Transfer.{blocks_of, judged_on, judged, verdict}
use Rattle.transfer.proofs.Shapes.{moved_flat, whole_not, handed_parted, judged_none, judged_all}
use Rattle.transfer.proofs.Comparing.{compared_none}
use Rattle.execute.specs.Lent.{lent, lengths_of}
use Rattle.execute.specs.Execute.{performed, executed}
use Rattle.demands.proofs.Demands.{good_read_hands_out}
use Rattle.fresh.specs.Allowed.{Allowed}
use Rattle.fresh.proofs.Runs.{field_at, zeros}
use Rattle.fresh.proofs.Filled.{fresh_blocks, filled_facts, filled_fresh, filled_length}
use Rattle.fresh.proofs.Codes.{codes_allowed}

-- ---- eight bytes FFh are the escape of every type
escape_tag : escapes Tag (replicate 8 0xFF) ≡ true
unfolding escapes stored_application number_at number number_from
escape_tag = refl

escape_both : escapes Both (replicate 8 0xFF) ≡ true
unfolding escapes stored_application stored_reference number_at number number_from
escape_both = refl

escape_of_lem : (kind : ℕ) → escapes (escape_of Stored kind) (replicate 8 0xFF) ≡ true
escape_of_lem kind = of (eqb kind 3)
  where
    of : (b : Bool) → escapes (cond b Both Tag) (replicate 8 0xFF) ≡ true
    of true = escape_both
    of false = escape_tag

-- a block whose first interval has the escape is skipped
first_escapes : (e : Escape) (size n : ℕ) (s : List ℕ) → 0 < n → escapes e (field_of size s) ≡ true → any_escapes e size n s ≡ true
unfolding any_escapes
first_escapes e size zero s h x = absurd (omega arith)
first_escapes e size (suc n) s h x = rw x refl

read_no_write : (o : Operation) → o ≡ Read → o ≡ Write → ⊥
read_no_write o r w = let z : ◌≡◌ {A = ℕ} 0 1 = cc in omega arith

-- ---- every READ, and every VERIFY that does not compare, of a fresh segment that goes on
module _ (d : Description) (old command buffer : List ℕ) (c : Command)
    (good : (filled d old).answer ≡ answers.good) (fields : d.kind ≡ 0 → ⊥)
    (in_order : admitted d (lengths_of (lent (filled d old).left buffer)) command ≡ Ok c) where
  ready : Ready d c (lengths_of (lent (filled d old).left buffer))
  ready = admitted_ready d (lengths_of (lent (filled d old).left buffer)) command c in_order

  blocks_fresh : blocks_of d c (filled d old).left ≡ fresh_intervals (size_of d) (c.length * intervals_of d)
  blocks_fresh = ap (blocks_of d c) (filled_fresh d old good fields) ∙ fresh_blocks d ready.described fields c ready.from ready.to

  -- each interval of the transfer has the escape
  pub every_interval_skipped : (j i : ℕ) → j < c.length → i < intervals_of d
      → escapes (rules_of Stored d c).escape (field_of (size_of d) (interval_at d (blocks_of d c (filled d old).left) j i)) ≡ true
  unfolding rules_of
  every_interval_skipped j i h m =
      rw (blocks_fresh, field_at (size_of d) (intervals_of d) c.length j i h m) (escape_of_lem d.kind)

  -- so no block is checked
  pub every_block_skipped : (j : ℕ) → j < c.length → skipped Stored d c (blocks_of d c (filled d old).left) j ≡ true
  every_block_skipped j h =
      let some = (sizes d ready.described).intervals_least in
      first_escapes (rules_of Stored d c).escape (size_of d) (intervals_of d) _ some (rw zero-mul at (every_interval_skipped j 0 h some))

  blocks_good : judge_blocks (rules_of Stored d c) c.length (start_of d c) (blocks_of d c (filled d old).left) ≡ answers.good
  unfolding judge_blocks rules_of
  blocks_good =
      (first_good (judge_block (rules_of Stored d c)) (next_block (intervals_of d)) (intervals_of d * (size_of d + 8)) c.length (start_of d c) _).1
      (λ j h. block_escaped (rules_of Stored d c) _ _ (every_block_skipped j h))

  module _ (no_write : c.operation ≡ Write → ⊥) (off : compares c ≡ false) where
    judged_good : judged d c buffer (blocks_of d c (filled d old).left) ≡ answers.good
    unfolding judged
    judged_good =
        (or_else_good (judged_on Sent d c buffer) _).1 (
          judged_none Sent d c buffer (checked_none Sent d c (sent_none c.operation c no_write off)),
          judged_all Stored d c _ fields (stored_all c.operation c no_write off) ∙ blocks_good,
        )

    pub fresh_reads_good : (executed d command (lent (filled d old).left buffer)).answer ≡ answers.good
    unfolding executed performed verdict
    fresh_reads_good =
        rw in_order ((or_else_good (judged d c buffer (blocks_of d c (filled d old).left)) _).1 (judged_good, compared_none d c _ _ off))

  -- a READ with 000 hands out zeros
  pub fresh_reads_zero : c.operation ≡ Read → c.code ≡ 0
      → (executed d command (lent (filled d old).left buffer)).left.buffer ≡ replicate (length buffer) 0x00
  fresh_reads_zero r z =
      let room : length buffer ≡ c.length * intervals_of d * size_of d = ready.room ∙ room_moved d c (ap is_verify r) ∙ sym (moved_flat d c ready.described z) in
      good_read_hands_out d command (lent (filled d old).left buffer) c (admitted_served d _ command c in_order) r (ap is_good (fresh_reads_good (read_no_write c.operation r) (not_verify c (ap is_verify r))))
      ∙ sym (handed_parted d c (blocks_of d c (filled d old).left) _ (size_of d) (intervals_of d) (whole_not d c fields z) refl refl refl)
      ∙ ap (user_data (size_of d) (c.length * intervals_of d)) blocks_fresh
      ∙ zeros (size_of d) (c.length * intervals_of d) ∙ ap (λ (x : ℕ). replicate x 0x00) (sym room)

-- ---- and every one with a code that the type allows goes on
module _ (d : Description) (c : Command) (s : IsSegment d) where
  moved_fits : c.length ≤ 65536 → moved_of d c ≤ 4294967295
  moved_fits h = by (eqb c.code 0) refl
    where
      most : (c.length * d.block ≤ 65536 * 4096) × (c.length * stored_of d ≤ 65536 * 4160)
      most = moved_most d c s h

      by : (z : Bool) → eqb c.code 0 ≡ z → moved_of d c ≤ 4294967295
      by true e = rw (moved_plain d c (eqb-true c.code 0 e)) (omega (arith, most.0))
      by false e = rw (moved_whole d c (eqb-false c.code 0 e)) (omega (arith, most.1))

  not_refused : (b : Lengths) → (d.kind ≡ 0 → ⊥) → Allowed d c → c.check ≡ 0
      → d.first ≤ c.address → c.address + c.length ≤ d.first + d.count → b.buffer ≡ buffer_of d c → refusal d c b ≡ answers.good
  unfolding refusal check_rule size_rule buffer_rule
  not_refused b fields allowed check from to room =
      let passed = (codes_allowed d c fields).1 allowed in
      let few : c.length ≤ 65536 = omega (arith, s.count) in
      rw (
        passed.0,
        passed.1,
        le-ltb 0b01 c.check (omega arith),
        inside d c.address c.length from to,
        le-ltb 4294967295 (moved_of d c) (moved_fits few),
        eq-eqb b.buffer (buffer_of d c) room,
      )

module _ (d : Description) (old command buffer : List ℕ) (c : Command)
    (good : (filled d old).answer ≡ answers.good) (fields : d.kind ≡ 0 → ⊥)
    (served : decode command ≡ Ok c) (allowed : Allowed d c) (check : c.check ≡ 0)
    (from : d.first ≤ c.address) (to : c.address + c.length ≤ d.first + d.count) (room : length buffer ≡ buffer_of d c) where
  pub allowed_goes_on : admitted d (lengths_of (lent (filled d old).left buffer)) command ≡ Ok c
  unfolding admitted
  allowed_goes_on =
      rw (
        length_right d (length (filled d old).left) (described_rule d (filled_facts d old good)) (filled_length d old good fields),
        served,
        not_refused d c (filled_facts d old good) (lengths_of (lent (filled d old).left buffer)) fields allowed check from to room,
      )

  pub allowed_reads_good : (c.operation ≡ Write → ⊥) → (executed d command (lent (filled d old).left buffer)).answer ≡ answers.good
  allowed_reads_good no_write = fresh_reads_good d old command buffer c good fields allowed_goes_on no_write (other_bits c (λ one. omega (arith, check, one)))

-- Document 02, "Compare while verifying", beside the demands: what a VERIFY leaves, what it checks and compares, and that it finds what was
-- written.
-- Assumes nothing.
use Rattle.std.specs.Prelude.{Ok}
use mathlib.Core.Path.{◌≡◌, refl, sym, ap, ap₂, ◌∙◌}
use mathlib.Core.Bool.{Bool, true, false, not, cond}
use mathlib.Core.List.{List}
use Prim.Native.Nat.{ℕ, ◌*◌}
use native.Mathlib.Omega.{arith}
use borrow.Author.Tests.{eq-eqb, ne_eqb, eqb-true, eqb-false}
use lib.Dec.{eqb, ltb}
use Rattle.words.specs.Parts.{Bytes}
use Rattle.answer.specs.Answer.{is_good, or_else}
use Rattle.answer.specs.Answer as answers
use Rattle.answer.proofs.Ladder.{or_else_good}
use Rattle.segment.specs.declared.Description.{Description}
use Rattle.segment.specs.Segment.{intervals_of, size_of, stored_of}
use Rattle.command.specs.declared.Command.{Command}
use Rattle.command.specs.declared.Operation.{Operation}
use Rattle.command.specs.declared.Operation.TheVariants.{Read, Write, Verify}
use Rattle.command.specs.Compares.{is_verify, compares}
use Rattle.command.proofs.CommandLaws.{comparing}
use Rattle.decoding.specs.Commands.{decode}
use Rattle.decoding.proofs.Demands.{verify_alone_has_bits}
use Rattle.blocks.specs.Blocks.{user_data}
use Rattle.comparison.specs.Comparison.{compare_blocks}
use Rattle.comparison.proofs.FirstLaws.{blocks_same}
use Rattle.sides.specs.declared.Side.{Side}
use Rattle.sides.specs.declared.Side.TheVariants.{Sent, Stored}
use Rattle.sides.specs.Sides.{checks_on, checked_on}
use Rattle.sides.proofs.Laws.{checked_none, checked_plain, verify_of_user_data, verify_of_whole_blocks}
use Rattle.rules.specs.Rules.{application_known, reference_known, first_tag, rules_of, start_of}
use Rattle.judge.specs.Judge.{judge_blocks}
use Rattle.refusal.specs.declared.Lengths.{Lengths}
use Rattle.refusal.specs.Refusal.{long_rule, other_rule, plain_rule, type_rules, code_rule, check_rule, size_rule, moved_of, buffer_of, buffer_rule, refusal}
use Rattle.admission.specs.Admission.{admitted}
use Rattle.execute.specs.Lent.{Lent, lent, lengths_of}
use Rattle.transfer.specs.Transfer.{blocks_of, judged_on, judged, compared, verdict, whole, received}
use Rattle.transfer.proofs.Shapes.{whole_code, whole_not, handed_whole, handed_parted, judged_none, judged_all}
use Rattle.execute.specs.Execute.{performed, moved, executed}
use Rattle.demands.specs.Compared.{asked, as_read}
use Rattle.demands.specs.Different.{as_comparing, as_not_comparing, as_write}
use Rattle.demands.proofs.Stored.{handed_back, same_blocks}
use Rattle.demands.proofs.Demands.{read_or_verify_leaves_segment, write_or_verify_leaves_buffer, goes_on_after, was_stored, write_judged, accepted}

no_write : (o : Operation) → o ≡ Verify → o ≡ Write → ⊥
no_write o v w = let z : ◌≡◌ {A = ℕ} 0 1 = cc in omega arith

no_read : (o : Operation) → o ≡ Verify → o ≡ Read → ⊥
no_read o v r = let z : ◌≡◌ {A = ℕ} 0 1 = cc in omega arith

-- a VERIFY never changes the segment or the buffer, whatever it answers
pub verify_changes_nothing : (d : Description) (command : List ℕ) (l : Lent) (c : Command) → decode command ≡ Ok c → c.operation ≡ Verify
    → (executed d command l).left ≡ l
verify_changes_nothing d command l c served v =
    ap₂ lent (read_or_verify_leaves_segment d command l c served (no_write c.operation v))
    (write_or_verify_leaves_buffer d command l c served (no_read c.operation v))

-- ---- what is compared
module _ (d : Description) (c : Command) (sent stored : List ℕ) (on : compares c ≡ true) where
  -- "With 000 .. then user data is compared."
  pub compares_user_data : (d.kind ≡ 0 → ⊥) → c.code ≡ 0
      → compared d c sent stored ≡ compare_blocks d.block c.length c.address (user_data (size_of d) (c.length * intervals_of d) stored) sent
  unfolding compared
  compares_user_data k z =
      rw (on, eq-eqb c.code 0 z, ← handed_parted d c stored _ (size_of d) (intervals_of d) (whole_not d c k z) refl refl refl) refl

  -- "With another code .. then all S bytes of each block are compared."
  pub compares_whole_blocks : (d.kind ≡ 0 → ⊥) → (c.code ≡ 0 → ⊥) → compared d c sent stored ≡ compare_blocks (stored_of d) c.length c.address stored sent
  unfolding compared
  compares_whole_blocks k n = rw (on, ne_eqb c.code 0 n, handed_whole d c stored (whole_code d c k n)) refl

  -- "In type 0 only the data is compared."
  pub compares_data_of_type_zero : d.kind ≡ 0 → c.code ≡ 0 → compared d c sent stored ≡ compare_blocks d.block c.length c.address stored sent
  unfolding compared whole
  compares_data_of_type_zero k z = rw (on, eq-eqb c.code 0 z, handed_whole d c stored (rw (eq-eqb d.kind 0 k) refl)) refl

-- ---- what is checked
module _ (d : Description) (c : Command) where
  -- by what rules does not depend on the operation, nor on the byte-check bits
  rules_alike : (side : Side) (o : Operation) (bits count : ℕ) (s : List ℕ)
      → judge_blocks (rules_of side d (asked o bits c)) count (start_of d (asked o bits c)) s ≡ judge_blocks (rules_of side d c) count (start_of d c) s
  unfolding rules_of start_of application_known reference_known first_tag
  rules_alike side o bits count s = refl

  judged_alike : (side : Side) (o : Operation) (bits : ℕ) (s : List ℕ) → checks_on side c.operation c ≡ checks_on side o (asked o bits c)
      → judged_on side d c s ≡ judged_on side d (asked o bits c) s
  unfolding judged_on checked_on
  judged_alike side o bits s e =
      rw e (sym (rules_alike side o bits (cond (eqb d.kind 0) 0 (cond (checks_on side o (asked o bits c)) c.length 0)) s))

  module _ (sent stored : List ℕ) (on : compares c ≡ true) where
    as_verify : (side : Side) → checks_on side c.operation c ≡ checks_on side Verify c
    as_verify side = ap (λ (o : Operation). checks_on side o c) (comparing c on).verify

    -- "With 000 the stored intervals are checked as today"
    pub checked_as_today : c.code ≡ 0 → judged d c sent stored ≡ judged d (as_not_comparing c) sent stored
    unfolding judged
    checked_as_today z = ap₂ or_else (judged_alike Sent Verify 0b00 sent (alike Sent)) (judged_alike Stored Verify 0b00 stored (alike Stored))
      where
        alike : (side : Side) → checks_on side c.operation c ≡ checks_on side Verify (as_not_comparing c)
        alike side = as_verify side ∙ verify_of_user_data side c z ∙ sym (verify_of_user_data side (as_not_comparing c) z)

    -- "With another code the incoming intervals are checked as for WRITE, the stored ones are not"
    pub checked_as_for_write : (c.code ≡ 0 → ⊥) → judged d c sent stored ≡ judged d (as_write c) sent stored
    unfolding judged
    checked_as_for_write n =
        ap₂ or_else (judged_alike Sent Write 0b00 sent (as_verify Sent ∙ verify_of_whole_blocks Sent c on n ∙ sym (ap not (ne_eqb c.code 0 n))))
        (judged_alike Stored Write 0b00 stored (as_verify Stored ∙ verify_of_whole_blocks Stored c on n))

-- ---- a VERIFY with byte-check bits 01b that asks as a good WRITE asked, and sends what that sent, is good
refusal_as_verify : (d : Description) (c : Command) (l : Lengths) → is_verify c.operation ≡ false → c.check ≡ 0 → refusal d (as_comparing c) l ≡ refusal d c l
unfolding refusal type_rules long_rule other_rule plain_rule code_rule check_rule size_rule moved_of buffer_rule buffer_of compares
refusal_as_verify d c l v z = let none : ltb 0b01 c.check ≡ false = ap (ltb 0b01) z in rw (v, none)

module _ (d : Description) (writing : List ℕ) (l : Lent) (verifying : List ℕ) (w : Command) (bytes : Bytes writing)
    (writes : decode writing ≡ Ok w) (is-write : w.operation ≡ Write) (good-write : is_good (executed d writing l).answer ≡ true)
    (verifies : decode verifying ≡ Ok (as_comparing w)) where
  abbrev then : Lent
  then = lent (executed d writing l).left.segment l.buffer

  went : admitted d (lengths_of then) verifying ≡ Ok (as_comparing w)
  went =
      goes_on_after d writing l w bytes writes is-write good-write verifying l.buffer (as_comparing w) verifies refl
      (refusal_as_verify d w (lengths_of l) (ap is_verify is-write) (verify_alone_has_bits writing w writes (λ v. no_write w.operation v is-write)))

  stored_are : blocks_of d (as_comparing w) then.segment ≡ received d w l.buffer
  stored_are = same_blocks d w (as_comparing w) then.segment refl refl ∙ (was_stored d writing l w bytes writes is-write good-write).1

  on : compares (as_comparing w) ≡ true
  unfolding compares
  on = refl

  judged_good : judged d (as_comparing w) l.buffer (received d w l.buffer) ≡ answers.good
  unfolding judged
  judged_good = (or_else_good (judged_on Sent d (as_comparing w) l.buffer) _).1 (by (eqb d.kind 0) refl (eqb w.code 0) refl)
    where
      by : (k : Bool) → eqb d.kind 0 ≡ k → (z : Bool) → eqb w.code 0 ≡ z
          → (judged_on Sent d (as_comparing w) l.buffer ≡ answers.good) × (judged_on Stored d (as_comparing w) (received d w l.buffer) ≡ answers.good)
      by true k z e =
          let none = eqb-true d.kind 0 k in
          (judged_none Sent d (as_comparing w) _ (checked_plain Sent d (as_comparing w) none), judged_none Stored d (as_comparing w) _ (checked_plain Stored d (as_comparing w) none))
      by false k true e =
          let n = eqb-false d.kind 0 k in
          let z = eqb-true w.code 0 e in (
            judged_none Sent d (as_comparing w) _ (checked_none Sent d (as_comparing w) (verify_of_user_data Sent (as_comparing w) z)),
            judged_all Stored d (as_comparing w) _ n (verify_of_user_data Stored (as_comparing w) z) ∙ rules_alike d (as_read w) Stored Verify 0b01 w.length _
                ∙ sym (judged_all Stored d (as_read w) _ n refl) ∙ accepted d writing l w bytes writes is-write good-write,
          )
      by false k false e =
          let n = eqb-false d.kind 0 k in
          let z = eqb-false w.code 0 e in
          let sends : checks_on Sent w.operation w ≡ true = ap (λ (o : Operation). checks_on Sent o w) is-write ∙ ap not e in (
            judged_all Sent d (as_comparing w) _ n (verify_of_whole_blocks Sent (as_comparing w) on z) ∙ rules_alike d w Sent Verify 0b01 w.length _
                ∙ sym (judged_all Sent d w l.buffer n sends) ∙ write_judged d writing l w bytes writes is-write good-write,
            judged_none Stored d (as_comparing w) _ (checked_none Stored d (as_comparing w) (verify_of_whole_blocks Stored (as_comparing w) on z)),
          )

  compared_good : compared d (as_comparing w) l.buffer (received d w l.buffer) ≡ answers.good
  unfolding compared whole
  compared_good =
      rw (on, handed_back d w l (was_stored d writing l w bytes writes is-write good-write).0 is-write (as_comparing w) refl refl)
      ((blocks_same _ w.length w.address l.buffer l.buffer).1 (λ j h. refl))

  pub written_compares_equal : (executed d verifying (lent (executed d writing l).left.segment l.buffer)).answer ≡ answers.good
  unfolding executed performed moved verdict
  written_compares_equal =
      rw (went, stored_are)
      ((or_else_good (judged d (as_comparing w) l.buffer (received d w l.buffer)) _).1 (judged_good, compared_good))

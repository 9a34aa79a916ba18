-- What a good transfer has moved, sentence by sentence. Each follows from the theorems of Demands.
-- Assumes nothing.
use Rattle.std.specs.Prelude.{Ok}
use mathlib.Core.Path.{◌≡◌, refl, sym, ap, ap₂, ◌∙◌}
use mathlib.Core.Bool.{Bool, true, false, not, ◌||◌, cond}
use mathlib.Core.List.{List, [], ◌++◌}
use Prim.Native.Nat.{ℕ, ◌+◌, ◌*◌, ◌<◌}
use native.Mathlib.Nat.{zero-mul, le_of_eq, not-suc-le-zero}
use native.Mathlib.Omega.{arith}
use borrow.Author.Tests.{ne_eqb}
use lib.Dec.{eqb}
use lib.ListN.{take, drop, take-append-drop}
use lib.Seq.{take_all}
use Rattle.words.specs.Parts.{Bytes}
use Rattle.words.specs.Runs.{runs}
use Rattle.answer.specs.Answer.{is_good, Answer}
use Rattle.answer.specs.Outcome.{Outcome, outcome}
use Rattle.answer.specs.Answer as answers
use Rattle.answer.proofs.Ladder.{or_else_good}
use Rattle.segment.specs.declared.Description.{Description}
use Rattle.segment.specs.Segment.{intervals_of, size_of, stored_of}
use Rattle.segment.specs.Places.{offset_of, span_of, blocks_from}
use Rattle.command.specs.declared.Command.{Command}
use Rattle.command.specs.declared.Operation.{Operation}
use Rattle.command.specs.declared.Operation.TheVariants.{Read, Write, Verify}
use Rattle.decoding.specs.Commands.{decode}
use Rattle.blocks.specs.Blocks.{user_data}
use Rattle.sides.specs.declared.Side.{Side}
use Rattle.sides.specs.declared.Side.TheVariants.{Sent, Stored}
use Rattle.sides.specs.Sides.{checks_on, checked_on}
use Rattle.sides.proofs.Laws.{checked_all}
use Rattle.rules.specs.Intervals.{verdict_at}
use Rattle.command.specs.Compares.{is_verify}
use Rattle.command.proofs.CommandLaws.{not_verify}
use Rattle.refusal.specs.Refusal.{moved_of}
use Rattle.refusal.proofs.Rules.{room_moved}
use Rattle.admission.specs.Admission.{admitted}
use Rattle.admission.proofs.Ready.{admitted_served, admitted_ready}
use Rattle.execute.specs.Lent.{Lent, lent, lengths_of}
use Rattle.transfer.specs.Transfer.{blocks_of, judged_on, judged, compared, verdict, whole, handed}
use Rattle.transfer.proofs.Shapes.{whole_not, handed_parted, received_whole, judged_none}
use Rattle.execute.specs.Execute.{under_check, performed, executed}
use Rattle.demands.specs.Compared.{Beside}
use Rattle.demands.proofs.Same.{all_same}
use Rattle.demands.proofs.Demands.{good_in_order, write_or_verify_leaves_buffer, good_write_keeps_other_blocks, good_write_stores, good_read_hands_out, good_exactly_when_all_right}

-- ---- a transfer of no blocks
none_of : (k b : Bool) (t : ℕ) → t ≡ 0 → cond k 0 (cond b t 0) ≡ 0
none_of true b t e = refl
none_of false true t e = e
none_of false false t e = refl

none_handed : (w : Bool) (s : List ℕ) (size k : ℕ) → s ≡ [] → k ≡ 0 → cond w s (user_data size k s) ≡ []
unfolding user_data runs
none_handed true s size k e z = e
none_handed false s size k e z = ap (λ (n : ℕ). user_data size n s) z

beside_none : (d : Description) (c : Command) (old new : List ℕ) → span_of d c.length ≡ 0 → Beside d c old new → new ≡ old
beside_none d c old new z b =
    let at = offset_of d c.address in
    let end : at + span_of d c.length ≡ at = omega arith in
    let behind : drop at new ≡ drop at old = rw end at b.behind in
    sym (take-append-drop at new) ∙ ap₂ (λ (x y : List ℕ). x ++ y) b.before behind ∙ take-append-drop at old

module _ (d : Description) (c : Command) (none : c.length ≡ 0) where
  no_bytes : (x : ℕ) → c.length * x ≡ 0
  no_bytes x = ap (λ (t : ℕ). t * x) none ∙ zero-mul x

  span_none : span_of d c.length ≡ 0
  unfolding span_of
  span_none = no_bytes (stored_of d)

  moved_none : moved_of d c ≡ 0
  unfolding moved_of
  moved_none = no_bytes _

  checked_nothing : (side : Side) → checked_on side d c ≡ 0
  unfolding checked_on
  checked_nothing side = none_of (eqb d.kind 0) (checks_on side c.operation c) c.length none

  handed_none : (segment : List ℕ) → handed d c (blocks_of d c segment) ≡ []
  unfolding handed blocks_of blocks_from
  handed_none segment =
      none_handed (whole d c) _ (size_of d) (c.length * intervals_of d) (ap (λ (n : ℕ). take n (drop (offset_of d c.address) segment)) span_none) (no_bytes (intervals_of d))

  module _ (command : List ℕ) (l : Lent) (in_order : admitted d (lengths_of l) command ≡ Ok c) where
    abbrev done : Outcome Lent
    done = executed d command l

    served : decode command ≡ Ok c
    served = admitted_served d (lengths_of l) command c in_order

    none_judged : (side : Side) → judged_on side d c (under_check side d c l) ≡ answers.good
    none_judged side = judged_none side d c _ (checked_nothing side)

    none_compared : compared d c (under_check Sent d c l) (under_check Stored d c l) ≡ answers.good
    none_compared = (all_same d c l).1 (λ on j h. absurd (not-suc-le-zero (rw none at h)))

    none_good : done.answer ≡ answers.good
    unfolding executed performed verdict judged
    none_good =
        rw in_order
        ((or_else_good (judged d c (under_check Sent d c l) (under_check Stored d c l)) _).1 (
          (or_else_good (judged_on Sent d c (under_check Sent d c l)) _).1 (none_judged Sent, none_judged Stored),
          none_compared,
        ))

    none_there : is_verify c.operation ≡ false → l.buffer ≡ []
    none_there v =
        let room = (admitted_ready d (lengths_of l) command c in_order).room in
        sym (take_all 0 l.buffer (le_of_eq (room ∙ room_moved d c v ∙ moved_none)))

    none_filled : (o : Operation) → c.operation ≡ o → done.left.buffer ≡ l.buffer
    none_filled Read e =
        good_read_hands_out d command l c served e (ap is_good none_good) ∙ handed_none l.segment ∙ sym (none_there (ap is_verify e))
    none_filled Write e = write_or_verify_leaves_buffer d command l c served (λ r. let z : ◌≡◌ {A = ℕ} 0 1 = cc in omega arith)
    none_filled Verify e = write_or_verify_leaves_buffer d command l c served (λ r. let z : ◌≡◌ {A = ℕ} 0 1 = cc in omega arith)

    -- "Length T of 0 moves nothing and, where no earlier refusal applies, is good."
    pub nothing_moved : executed d command l ≡ outcome answers.good l
    nothing_moved =
        ap₂ (λ (a : Answer) (s : List ℕ). outcome a (lent s done.left.buffer)) none_good
        (beside_none d c l.segment done.left.segment span_none (good_write_keeps_other_blocks d command l c served))
        ∙ ap (λ (b : List ℕ). outcome answers.good (lent l.segment b)) (none_filled c.operation refl)

-- ---- a good command
module _ (d : Description) (command : List ℕ) (l : Lent) (c : Command) (served : decode command ≡ Ok c)
    (good : (executed d command l).answer ≡ answers.good) where
  -- "received fields are stored as received"
  pub received_as_sent : c.operation ≡ Write → (c.code ≡ 0 → ⊥) → blocks_of d c (executed d command l).left.segment ≡ l.buffer
  unfolding whole
  received_as_sent w n =
      (good_write_stores d command l c served w (ap is_good good)).1
      ∙ received_whole d c l.buffer (ap (λ (b : Bool). eqb d.kind 0 || not b) (ne_eqb c.code 0 n) ∙ either (eqb d.kind 0))
    where
      either : (b : Bool) → b || true ≡ true
      either true = refl
      either false = refl

  -- "Stored fields are judged before they are taken off": each interval of the blocks whose user data is handed out is right
  pub judged_before_taken_off : Bytes command → c.operation ≡ Read → c.code ≡ 0 → (d.kind ≡ 0 → ⊥)
      → ((j i : ℕ) → j < c.length → i < intervals_of d → verdict_at Stored d c (blocks_of d c l.segment) j i ≡ answers.good)
      × ((executed d command l).left.buffer ≡ user_data (size_of d) (c.length * intervals_of d) (blocks_of d c l.segment))
  judged_before_taken_off bytes r zero fields = (
    rw (checked_all Stored d c fields (ap (λ (o : Operation). checks_on Stored o c) r)) at
        ((good_exactly_when_all_right d command l c bytes (good_in_order d command l c served (ap is_good good)) (not_verify c (ap is_verify r))).0 good Stored),
    good_read_hands_out d command l c served r (ap is_good good)
        ∙ sym (handed_parted d c (blocks_of d c l.segment) _ (size_of d) (intervals_of d) (whole_not d c fields zero) refl refl refl),
  )

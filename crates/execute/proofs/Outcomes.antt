-- From what an admitted command's parts did to the command's outcome.
-- Assumes nothing.
use mathlib.Core.Path.{◌≡◌, refl, sym, ap, ◌∙◌}
use mathlib.Core.Bool.{true, false}
use mathlib.Core.List.{List}
use Prim.Native.Nat.{ℕ, ◌+◌, ◌-◌, ◌≤◌}
use native.Mathlib.Omega.{arith}
use borrow.Author.Tests.{eqb-false, not-true}
use lib.ListN.{length, take, drop}
use Rattle.words.specs.Parts.{put}
use Rattle.words.proofs.BigEndian.{part_length}
use Rattle.words.proofs.Choice.{never}
use Rattle.std.specs.Prelude.{Ok, Err}
use Rattle.answer.specs.Answer.{Answer, good}
use Rattle.answer.specs.declared.Refusal.{Refusal}
use Rattle.answer.specs.Outcome.{outcome}
use Rattle.segment.specs.declared.Description.{Description}
use Rattle.segment.specs.Places.{offset_of, span_of, blocks_from}
use Rattle.segment.proofs.Places.{span_within}
use Rattle.command.specs.declared.Command.{Command}
use Rattle.command.specs.declared.Operation.{Operation}
use Rattle.command.specs.declared.Operation.TheVariants.{Read, Write, Verify}
use Rattle.refusal.specs.declared.Lengths.{Lengths}
use Rattle.command.specs.Compares.{is_verify}
use Rattle.refusal.proofs.Rules.{room_moved, room_compared}
use Rattle.sides.specs.declared.Side.TheVariants.{Sent}
use Rattle.sides.specs.Sides.{checks_on}
use Rattle.sides.proofs.Laws.{checks_all, as_write_lem}
use Rattle.admission.specs.Admission.{admitted}
use Rattle.admission.specs.Ready.{Ready}
use Rattle.execute.specs.Lent.{Lent, lent, lengths_of}
use Rattle.transfer.specs.Transfer.{blocks_of, verdict, handed, received}
use Rattle.transfer.specs.Inner.{Shaped, Sided, Fitted, Paired}
use Rattle.transfer.proofs.Shapes.{moved_span}
use Rattle.execute.specs.Execute.{overwritten, moved_for, moved, performed, executed}

-- ---- what admission settled
module _ {d : Description} {c : Command} {l : Lengths} (r : Ready d c l) where
  pub short : c.length ≤ 65536
  short = omega (arith, r.from, r.to, r.described.count)

  pub located : (d.first ≤ c.address) × (c.address ≤ d.first + d.count)
  located = (r.from, omega (arith, r.to))

  pub shaped : Shaped d c
  shaped = record { described = r.described; few = short; end = omega (arith, r.to, r.described.end) }

  pub within : (at end : ℕ) → at ≡ offset_of d c.address → end ≡ at + span_of d c.length → end ≤ l.segment
  within at end e f = rw (f, e) (span_within d c.address c.length l.segment r.whole r.from r.to)

  -- what is sent is whole blocks where it is checked, and the part of the segment always is
  pub sent : Sided Sent d c l.buffer
  sent n = by c.operation refl (checks_all Sent d c n).checks
    where
      by : (o : Operation) → c.operation ≡ o → checks_on Sent o c ≡ true → l.buffer ≡ span_of d c.length
      by Read e x = never x
      by Write e x = r.room ∙ room_moved d c (ap is_verify e) ∙ moved_span d c r.described (eqb-false c.code 0 (not-true _ x))
      by Verify e x =
          let w = as_write_lem c x in
          r.room ∙ room_compared d c w.comparing ∙ moved_span d c r.described w.fields

  -- where blocks are compared, as many bytes are sent as a WRITE of them would bring
  pub paired : (n : ℕ) → n ≡ span_of d c.length → Paired d c l.buffer n
  paired n e on = (record { room = r.room ∙ room_compared d c on; plain = r.plain }, e)

  pub part : (at end : ℕ) (segment : List ℕ) → length segment ≡ l.segment → at ≡ offset_of d c.address → end ≡ at + span_of d c.length
      → length (take (end - at) (drop at segment)) ≡ span_of d c.length
  part at end segment m e f =
      rw f (part_length at (span_of d c.length) segment (rw (m, ← f) (within at end e f)))

  pub fitted : is_verify c.operation ≡ false → Fitted d c l.buffer
  fitted v = record { room = r.room ∙ room_moved d c v; plain = r.plain }

-- the part of the segment that is handed on is the transfer's blocks
pub blocks_are : (d : Description) (c : Command) (at end : ℕ) (segment : List ℕ) → at ≡ offset_of d c.address → end ≡ at + span_of d c.length
    → take (end - at) (drop at segment) ≡ blocks_of d c segment
unfolding blocks_of blocks_from
blocks_are d c at end segment e f = let same : end - at ≡ span_of d c.length = omega arith in rw (same, e)

pub ends : (at w s : ℕ) → w ≡ s → at + w ≡ at + s
ends at w s e = ap (λ (x : ℕ). at + x) e

-- ---- by the operation
module _ (d : Description) (c : Command) (segment buffer : List ℕ) where
  by_operation : (o : Operation) → c.operation ≡ o → (left : Lent) → left ≡ moved_for o d c (lent segment buffer) → left ≡ moved d c (lent segment buffer)
  unfolding moved
  by_operation o f left m = m ∙ ap (λ (x : Operation). moved_for x d c (lent segment buffer)) (sym f)

  pub read_moved : c.operation ≡ Read → (stored left : List ℕ) → stored ≡ blocks_of d c segment → left ≡ handed d c stored
      → lent segment left ≡ moved d c (lent segment buffer)
  read_moved o stored left s m = by_operation Read o _ (ap (lent segment) (m ∙ ap (handed d c) s))

  pub write_moved : c.operation ≡ Write → (at : ℕ) (left : List ℕ) → at ≡ offset_of d c.address → left ≡ put at (received d c buffer) segment
      → lent left buffer ≡ moved d c (lent segment buffer)
  unfolding overwritten
  write_moved o at left f m =
      by_operation Write o _ (ap (λ (x : List ℕ). lent x buffer) (m ∙ ap (λ (x : ℕ). put x (received d c buffer) segment) f))

  pub verify_moved : c.operation ≡ Verify → lent segment buffer ≡ moved d c (lent segment buffer)
  verify_moved o = by_operation Verify o _ refl

-- ---- judged and compared, and then moved
module _ (d : Description) (c : Command) (segment buffer stored : List ℕ) (s : stored ≡ blocks_of d c segment) where
  verdict_is : {a : Answer} → a ≡ verdict d c buffer stored → a ≡ verdict d c buffer (blocks_of d c segment)
  verdict_is e = e ∙ ap (verdict d c buffer) s

  pub refused_performed : (e : Refusal) → Err e ≡ verdict d c buffer stored → outcome (Err e) (lent segment buffer) ≡ performed d c (lent segment buffer)
  unfolding performed
  refused_performed e v = rw (← verdict_is v) refl

  pub good_performed : good ≡ verdict d c buffer stored → (left : Lent) → left ≡ moved d c (lent segment buffer)
      → outcome good left ≡ performed d c (lent segment buffer)
  unfolding performed
  good_performed v left m = rw (← verdict_is v) (ap (outcome good) m)

-- ---- by what admission decided
module _ (d : Description) (command : List ℕ) (l : Lent) where
  pub refused_outcome : (e : Refusal) → Err e ≡ admitted d (lengths_of l) command → outcome (Err e) l ≡ executed d command l
  unfolding executed
  refused_outcome e h = rw (← h) refl

  pub went_outcome : (c : Command) (a : Answer) (left : Lent) → Ok c ≡ admitted d (lengths_of l) command → outcome a left ≡ performed d c l
      → outcome a left ≡ executed d command l
  unfolding executed
  went_outcome c a left e h = h ∙ rw (← e) refl

-- What a WRITE stores: how many bytes, where, beside what; and what a READ of the same blocks hands back.
-- Assumes nothing.
use mathlib.Core.Path.{◌≡◌, refl, sym, ap, ap₂, ◌∙◌}
use mathlib.Core.Bool.{Bool, true, false}
use mathlib.Core.List.{List}
use Prim.Native.Nat.{ℕ, ◌+◌, ◌*◌, ◌≤◌}
use native.Mathlib.Nat.{le_of_eq}
use native.Mathlib.Omega.{arith}
use lib.ListN.{length}
use lib.Seq.{take_all}
use Rattle.words.proofs.Parts.{put_length}
use Rattle.segment.specs.declared.Description.{Description}
use Rattle.segment.specs.Segment.{intervals_of, size_of}
use Rattle.segment.specs.Places.{offset_of, span_of, blocks_from}
use Rattle.segment.proofs.Places.{span_within, span_intervals}
use Rattle.command.specs.declared.Command.{Command}
use Rattle.command.specs.declared.Operation.TheVariants.{Write}
use Rattle.blocks.specs.Blocks.{user_data}
use Rattle.insertion.specs.Insertion.{stored_blocks}
use Rattle.insertion.proofs.Laws.{blocks_length, blocks_read}
use Rattle.blocks.proofs.Places.{put_before, put_there, put_behind}
use Rattle.marks.specs.Inserted.{marks_of}
use Rattle.command.specs.Compares.{is_verify}
use Rattle.refusal.specs.Refusal.{moved_of}
use Rattle.refusal.proofs.Rules.{room_moved}
use Rattle.admission.specs.Ready.{Ready}
use Rattle.execute.specs.Lent.{Lent, lengths_of}
use Rattle.transfer.specs.Transfer.{blocks_of, whole, handed, received}
use Rattle.execute.specs.Execute.{overwritten}
use Rattle.demands.specs.Compared.{Beside}
use Rattle.transfer.proofs.Shapes.{moved_intervals, moved_when_whole, parted, handed_whole, handed_parted, received_whole, received_parted}

pub beside_itself : (d : Description) (c : Command) (s : List ℕ) → Beside d c s s
beside_itself d c s = record { before = refl; behind = refl; long = refl }

module _ (d : Description) (c : Command) (l : Lent) (r : Ready d c (lengths_of l)) (w : c.operation ≡ Write) where
  abbrev buffer : List ℕ
  buffer = l.buffer

  abbrev segment : List ℕ
  segment = l.segment

  room : length buffer ≡ moved_of d c
  room = r.room ∙ room_moved d c (ap is_verify w)

  pub enough : whole d c ≡ false → c.length * (intervals_of d * size_of d) ≡ length buffer
  enough e = moved_intervals d c r.described (parted d c e).zero ∙ sym room

  -- fields that are inserted
  pub inserted : whole d c ≡ false → stored_blocks (size_of d) (intervals_of d) c.length (marks_of d c) buffer ≡ received d c buffer
  inserted e = received_parted d c buffer (size_of d) (intervals_of d) (marks_of d c) e refl refl refl

  pub received_length : length (received d c buffer) ≡ span_of d c.length
  received_length = by (whole d c) refl
    where
      by : (b : Bool) → whole d c ≡ b → length (received d c buffer) ≡ span_of d c.length
      by true e = ap length (received_whole d c buffer e) ∙ room ∙ moved_when_whole d c r.described r.plain e
      by false e =
          ap length (sym (inserted e))
          ∙ blocks_length (size_of d) (intervals_of d) c.length (marks_of d c) buffer (le_of_eq (enough e))
          ∙ span_intervals d r.described c.length (parted d c e).fields

  fits : offset_of d c.address + length (received d c buffer) ≤ length segment
  fits = rw received_length (span_within d c.address c.length (length segment) r.whole r.from r.to)

  pub overwritten_beside : Beside d c segment (overwritten d c l)
  unfolding overwritten
  overwritten_beside =
      record {
        before = put_before (offset_of d c.address) (received d c buffer) segment fits (offset_of d c.address) (omega arith);
        behind = put_behind (offset_of d c.address) (received d c buffer) segment fits (offset_of d c.address + span_of d c.length) (omega (arith, received_length));
        long = put_length (offset_of d c.address) (received d c buffer) segment fits;
      }

  pub overwritten_there : blocks_of d c (overwritten d c l) ≡ received d c buffer
  unfolding overwritten blocks_of blocks_from
  overwritten_there = rw (← received_length) (put_there (offset_of d c.address) (received d c buffer) segment fits)

  -- a READ of as many blocks, of user data or whole blocks as the WRITE was
  pub handed_back : (k : Command) → k.length ≡ c.length → whole d k ≡ whole d c → handed d k (received d c buffer) ≡ buffer
  handed_back k long same = by (whole d c) refl
    where
      by : (b : Bool) → whole d c ≡ b → handed d k (received d c buffer) ≡ buffer
      by true e = handed_whole d k (received d c buffer) (same ∙ e) ∙ received_whole d c buffer e
      by false e =
          sym (handed_parted d k (received d c buffer) _ (size_of d) (intervals_of d) (same ∙ e) refl refl refl)
          ∙ ap₂ (λ (n : ℕ) (x : List ℕ). user_data (size_of d) (n * intervals_of d) x) long (sym (inserted e))
          ∙ blocks_read (size_of d) (intervals_of d) c.length (marks_of d c) buffer (le_of_eq (enough e))
          ∙ take_all (c.length * (intervals_of d * size_of d)) buffer (le_of_eq (sym (enough e)))

-- two commands on the same blocks
pub same_blocks : (d : Description) (c k : Command) (s : List ℕ) → k.address ≡ c.address → k.length ≡ c.length → blocks_of d k s ≡ blocks_of d c s
unfolding blocks_of
same_blocks d c k s a l = ap₂ (λ (x n : ℕ). blocks_from d x n s) a l

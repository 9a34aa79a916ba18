-- What of the transfer's blocks is compared: as many bytes as are sent, and those that a READ hands out.
-- Assumes nothing.
use mathlib.Core.Path.{◌≡◌, refl, sym, ap, ap₂, ◌∙◌}
use mathlib.Core.Bool.{Bool, true, false, not, ◌||◌, cond}
use mathlib.Core.List.{List}
use Prim.Native.Nat.{ℕ, ◌+◌, ◌*◌, ◌^◌, ◌≤◌}
use native.Mathlib.Nat.{mul_assoc, mul-one, one-mul, le_refl, le-add_right}
use borrow.Author.Tests.{eq-eqb, eqb-true}
use lib.Dec.{eqb}
use lib.ListN.{length}
use Rattle.words.proofs.Choice.{never}
use Rattle.answer.specs.Answer as answers
use Rattle.answer.specs.Answer.{Answer}
use Rattle.segment.specs.declared.Description.{Description}
use Rattle.segment.specs.Segment.{IsSegment, intervals_of, size_of, stored_of}
use Rattle.segment.specs.Places.{span_of}
use Rattle.segment.proofs.Laws.{sizes, stored_plain, stored_intervals}
use Rattle.segment.proofs.Places.{span_flat}
use Rattle.command.specs.declared.Command.{Command}
use Rattle.command.specs.Compares.{compares}
use Rattle.field.specs.Field.{data_of}
use Rattle.blocks.specs.Blocks.{user_data}
use Rattle.blocks.proofs.Pieces.{runs_same}
use Rattle.comparison.specs.declared.Cut.{Cut}
use Rattle.comparison.specs.Comparison.{compare_blocks}
use Rattle.comparison.specs.Inner.{parts_of, Pair}
use Rattle.refusal.specs.Refusal.{each_of, moved_of}
use Rattle.transfer.specs.Transfer.{whole, handed, compared}
use Rattle.transfer.specs.Inner.{Shaped, cut_of, Paired}
use Rattle.transfer.proofs.Shapes.{parted, handed_whole, handed_parted}

module _ (d : Description) (c : Command) where
  pub cut_whole : whole d c ≡ true → (stored : ℕ) → stored ≡ stored_of d → ◌≡◌ {A = Cut} (record { pieces = 1; size = stored; stride = stored }) (cut_of d c)
  unfolding cut_of
  cut_whole e stored s = rw (s, e)

  pub cut_parted : whole d c ≡ false → (n size : ℕ) → n ≡ intervals_of d → size ≡ size_of d → ◌≡◌ {A = Cut} (record { pieces = n; size = size; stride = size + 8 }) (cut_of d c)
  unfolding cut_of
  cut_parted e n size i z = rw (i, z, e)

  -- ---- what is compared of each block is as much as is sent
  each_whole : whole d c ≡ true → stored_of d ≡ each_of d c
  unfolding whole
  each_whole e = by (eqb d.kind 0) refl (eqb c.code 0) e
    where
      by : (k : Bool) → eqb d.kind 0 ≡ k → (z : Bool) → (k || not z) ≡ true → stored_of d ≡ cond z d.block (stored_of d)
      by true k true e = stored_plain d (eqb-true d.kind 0 k)
      by false k true e = never e
      by true k false e = refl
      by false k false e = refl

  each_parted : IsSegment d → whole d c ≡ false → intervals_of d * size_of d ≡ each_of d c
  each_parted s e = (sizes d s).whole ∙ rw (eq-eqb c.code 0 (parted d c e).zero) refl

  record Fits (k : Cut) : Type 0 where
    each : k.pieces * k.size ≡ each_of d c
    pair : Pair k (c.length * k.pieces) (span_of d c.length) (moved_of d c)
    small : k.pieces * k.stride ≤ 4160
    parts : (s : List ℕ) → length s ≡ span_of d c.length → parts_of k (c.length * k.pieces) s ≡ handed d c s

  fits : IsSegment d → Fits (cut_of d c)
  unfolding span_of moved_of parts_of user_data data_of
  fits s = by (whole d c) refl
    where
      by : (b : Bool) → whole d c ≡ b → Fits (cut_of d c)
      by true e =
          let same : c.length * 1 * stored_of d ≡ c.length * stored_of d = rw mul-one refl in
          rw (← cut_whole e (stored_of d) refl)
          (record {
            each = one-mul _ ∙ each_whole e;
            pair = record { from = same; to = same ∙ ap (λ (x : ℕ). c.length * x) (each_whole e); apart = le_refl _ };
            small = rw one-mul (sizes d s).stored_most;
            parts = λ l h. runs_same (c.length * 1) (stored_of d) l (same ∙ sym h) ∙ sym (handed_whole d c l e);
          })
      by false e =
          let fields = (parted d c e).fields in
          rw (← cut_parted e (intervals_of d) (size_of d) refl refl)
          (record {
            each = each_parted s e;
            pair =
                record {
                  from = span_flat d s c.length fields;
                  to = mul_assoc c.length (intervals_of d) (size_of d) ∙ ap (λ (x : ℕ). c.length * x) (each_parted s e);
                  apart = le-add_right (size_of d) 8;
                };
            small = rw (← stored_intervals d s fields) (sizes d s).stored_most;
            parts = λ l h. handed_parted d c l _ (size_of d) (intervals_of d) e refl refl refl;
          })

  -- ---- what comparing asks, and what it answers
  module _ (h : Shaped d c) (n m : ℕ) (pair : Paired d c n m) (on : compares c ≡ true) (k : Cut) (e : k ≡ cut_of d c) where
    pub compare_fits : (Pair k (c.length * k.pieces) m n) × ((k.pieces * k.stride ≤ 4160) × (c.address + c.length ≤ 2 ^ 63))
    compare_fits =
        let f = fits h.described in
        let two = pair on in
        (rw (e, two.1, two.0.room) f.pair, (rw e f.small, h.end))

    pub compared_on : (sent stored : List ℕ) (a : Answer) → length stored ≡ m
        → a ≡ compare_blocks (k.pieces * k.size) c.length c.address (parts_of k (c.length * k.pieces) stored) sent → a ≡ compared d c sent stored
    unfolding compared
    compared_on sent stored a long q =
        let f = fits h.described in
        q ∙ rw (e, on) (ap₂ (λ (n : ℕ) (x : List ℕ). compare_blocks n c.length c.address x sent) f.each (f.parts stored (long ∙ (pair on).1)))

  pub compared_none : (sent stored : List ℕ) → compares c ≡ false → compared d c sent stored ≡ answers.good
  unfolding compared
  compared_none sent stored e = rw e

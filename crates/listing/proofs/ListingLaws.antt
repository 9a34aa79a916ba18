-- The laws of a listing: all of it, one after another.
-- Assumes nothing.
use mathlib.Core.Path.{◌≡◌, sym, ap, ap₂, ◌∙◌}
use mathlib.Core.Bool.{true, false}
use mathlib.Core.List.{List}
use Prim.Native.Nat.{ℕ, ◌-◌, ◌≤◌}
use native.Mathlib.Nat.{zero-add, le_refl}
use native.Mathlib.Omega.{arith}
use lib.ListN.{length, take, drop, length-drop}
use lib.Seq.{take_all}
use Rattle.answer.specs.Answer.{Answer, is_good}
use Rattle.segment.specs.declared.Description.{Description}
use Rattle.segment.specs.Segment.{IsSegment, length_of}
use Rattle.writing.specs.Laid.{laid, Written}
use Rattle.closing.specs.Closing.{refused_text}
use Rattle.records.specs.Record.{record_answer, described_by, segment_in}
use Rattle.page.specs.Page.{listed_text}
use Rattle.listing.specs.Listing.{listing, Listed}
use Rattle.records.proofs.RecordLaws.{Whole, record_whole}

-- ---- all of it
pub tail_whole : (n : ℕ) (s : List ℕ) → take (length s - n) (drop n s) ≡ drop n s
tail_whole n s = take_all (length s - n) (drop n s) (rw length-drop (le_refl _))

pub list_as : (input : List ℕ) {t : List ℕ} {z : ℕ} {o left : List ℕ} → t ≡ listing input → Written t 0 o z left → Listed input o z left
list_as input {o = o} e w =
    record { count = w.end ∙ zero-add _ ∙ ap length e; text = w.now ∙ ap (λ (x : List ℕ). laid 0 x o) e }

module _ (input : List ℕ) {a : Answer} (e : a ≡ record_answer input) where
  pub refused_is : is_good a ≡ false → refused_text a ≡ listing input
  unfolding listing
  refused_is w = rw (sym e, w)

  pub list_whole : is_good a ≡ true → Whole input
  list_whole w = record_whole input (ap is_good (sym e) ∙ w)

  pub listed_is : {d : Description} → is_good a ≡ true → d ≡ described_by input → listed_text d (take (length input - 19) (drop 19 input)) ≡ listing input
  unfolding listing segment_in
  listed_is {d} w m = rw (sym e, w) (ap₂ listed_text m (tail_whole 19 input))

-- what printing a listing asks, of a record that is not refused
pub list_fits : (input : List ℕ) {d : Description} → Whole input → d ≡ described_by input
    → IsSegment d × ((length_of d ≡ length (take (length input - 19) (drop 19 input))) × (length (take (length input - 19) (drop 19 input)) ≤ 65536))
unfolding segment_in
list_fits input w e =
    rw (e, tail_whole 19 input)
    (w.segment, (sym w.length, omega (arith, length-drop 19 input, w.frame.whole, w.frame.most)))

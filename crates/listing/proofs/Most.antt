-- How long a listing can be.
-- Assumes nothing.
use mathlib.Core.Path.{◌≡◌, refl, sym, ap}
use mathlib.Core.Bool.{Bool, true, false, cond}
use mathlib.Core.List.{List}
use Prim.Native.Nat.{ℕ, ◌≤◌}
use native.Mathlib.Omega.{arith}
use lib.ListN.{length, length-drop}
use Rattle.answer.specs.Answer.{is_good}
use Rattle.writing.proofs.Writing.{laid_length}
use Rattle.closing.specs.Closing.{refused_text}
use Rattle.records.specs.Record.{record_answer, described_by, segment_in}
use Rattle.page.specs.Page.{listed_text}
use Rattle.page.proofs.PageLaws.{listed_most}
use Rattle.listing.specs.Listing.{listing, Listed}
use Rattle.closing.proofs.ClosingLaws.{refused_most}
use Rattle.records.proofs.RecordLaws.{record_whole}

-- ---- a listing has at most 524,288 bytes
pub listing_most : (input : List ℕ) → length (listing input) ≤ 524288
unfolding listing segment_in
listing_most input = by (is_good (record_answer input)) refl
  where
    by : (b : Bool) → is_good (record_answer input) ≡ b
        → length (cond b (listed_text (described_by input) (segment_in input)) (refused_text (record_answer input))) ≤ 524288
    by true e =
        let w = record_whole input e in
        listed_most _ _ w.segment (sym w.length) (omega (arith, length-drop 19 input, w.frame.whole, w.frame.most))
    by false e = omega (arith, refused_most (record_answer input))

-- so a buffer of that length takes any listing in full
pub listed_fits : {input out left : List ℕ} {r : ℕ} → Listed input out r left → 524288 ≡ length out → r ≤ length left
listed_fits {input} {out} p h = omega (arith, p.count, listing_most input, ap length p.text, laid_length 0 (listing input) out)

-- Where blocks and intervals lie in the segment, and how many bytes that can be.
-- Assumes nothing.
use mathlib.Core.Path.{◌≡◌, refl, sym, ap, ◌∙◌}
use mathlib.Core.Bool.{true}
use mathlib.Core.List.{List}
use Prim.Native.Nat.{ℕ, ◌+◌, ◌*◌, ◌-◌, ◌≤◌}
use native.Mathlib.Nat.{mul-le-mul, mul-le-mul_right, add-mul, mul_assoc}
use native.Mathlib.Omega.{arith}
use borrow.Author.Tests.{le-ltb, ltb-false}
use lib.Dec.{ltb}
use lib.ListN.{drop}
use lib.Seq.{drop-drop}
use Rattle.words.proofs.Choice.{or_none}
use Rattle.answer.specs.Answer.{good, is_good}
use Rattle.answer.proofs.Ladder.{not_refused}
use Rattle.segment.specs.declared.Description.{Description}
use Rattle.segment.specs.Segment.{IsSegment, intervals_of, size_of, stored_of, length_of}
use Rattle.segment.specs.Places.{range_rule, offset_of, span_of, interval_at, begin_of}
use Rattle.segment.proofs.Laws.{sizes, stored_intervals}

module _ (d : Description) (address count : ℕ) where
  -- ---- the address: whole numbers, no wrap
  pub inside : d.first ≤ address → address + count ≤ d.first + d.count → range_rule d address count ≡ good
  unfolding range_rule
  inside h l = rw (le-ltb address d.first h, le-ltb (d.first + d.count) (address + count) l)

  pub range_facts : is_good (range_rule d address count) ≡ true → (d.first ≤ address) × (address + count ≤ d.first + d.count)
  unfolding range_rule
  range_facts e =
      let n = (or_none (ltb address d.first) (ltb (d.first + d.count) (address + count))).0 (not_refused _ _ e) in
      (ltb-false address d.first n.0, ltb-false (d.first + d.count) (address + count) n.1)

  -- ---- the bytes
  pub span_within : (s : ℕ) → s ≡ length_of d → d.first ≤ address → address + count ≤ d.first + d.count → offset_of d address + span_of d count ≤ s
  unfolding offset_of span_of length_of
  span_within s whole from to =
      rw (whole, ← add-mul (address - d.first) count (stored_of d))
      (mul-le-mul_right (stored_of d) (let h : address - d.first + count ≤ d.count = omega (arith, from, to) in h))

module _ (d : Description) (n : ℕ) (s : IsSegment d) where
  pub span_few : n ≤ 65536 → n * stored_of d ≤ 65536 * 4160
  span_few h = mul-le-mul h (sizes d s).stored_most

  pub offset_few : n ≤ d.first + d.count → (n - d.first) * stored_of d ≤ 65536 * 4160
  offset_few h = mul-le-mul {n₂ = 65536} {m₂ = 4160} (omega (arith, s.count)) (sizes d s).stored_most

-- an interval begins behind the blocks and intervals before it
pub interval_begins : (d : Description) (s : List ℕ) (j i : ℕ) → interval_at d s j i ≡ drop (begin_of d j i) s
unfolding begin_of
interval_begins d s j i =
    drop-drop (i * (size_of d + 8)) (j * (intervals_of d * (size_of d + 8))) s
    ∙ ap (λ (n : ℕ). drop n s) (ap (λ (n : ℕ). n + i * (size_of d + 8)) (sym (mul_assoc j (intervals_of d) (size_of d + 8))) ∙ sym (add-mul (j * intervals_of d) i (size_of d + 8)))

-- ---- so many blocks: their bytes by intervals, and how many intervals they have
module _ (d : Description) (s : IsSegment d) (count : ℕ) where
  pub span_intervals : (d.kind ≡ 0 → ⊥) → count * (intervals_of d * (size_of d + 8)) ≡ span_of d count
  unfolding span_of
  span_intervals k = ap (λ (x : ℕ). count * x) (sym (stored_intervals d s k))

  pub span_flat : (d.kind ≡ 0 → ⊥) → count * intervals_of d * (size_of d + 8) ≡ span_of d count
  span_flat k = mul_assoc count (intervals_of d) (size_of d + 8) ∙ span_intervals k

  pub intervals_few : count ≤ 65536 → count * intervals_of d ≤ 524288
  intervals_few h = mul-le-mul {n₂ = 65536} {m₂ = 8} h (sizes d s).intervals_most

-- the segment is all of its blocks
pub span_all : (d : Description) → span_of d d.count ≡ length_of d
unfolding span_of length_of
span_all d = refl

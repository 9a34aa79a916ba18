-- The laws of descriptions: the test and the facts say the same; what follows of a segment's sizes.
-- Assumes nothing.
use mathlib.Core.Path.{◌≡◌, refl, ◌∙◌}
use mathlib.Core.Bool.{Bool, true, false, ◌&&◌, ◌||◌, cond}
use Prim.Native.Nat.{ℕ, zero, suc, ◌+◌, ◌*◌, ◌/◌, ◌%◌, ◌^◌, ◌≤◌, ◌<◌}
use native.Mathlib.Nat.{lt_of_not-le, suc-ne-zero, le_refl, mul-add, mul-le-mul}
use native.Mathlib.Omega.{arith}
use borrow.Author.Rules.{rules}
use borrow.Author.Tests.{le-leb, eq-eqb, ne_eqb}
use lib.Dec.{T, eqb, leb, leb→le, eqb→eq, eqb-suc-zero}
use Rattle.segment.specs.declared.Description.{Description}
use Rattle.segment.specs.Segment.{is_segment, IsSegment, intervals_of, size_of, stored_of, length_of}

-- ---- the test and the facts
parts : (a b : Bool) → T (a && b) → T a × T b
parts true b t = (tt, t)
parts false b t = absurd t

zero_or : (a b : ℕ) → T (eqb a 0 || leb 2 b) → b < 2 → a ≡ 0
zero_or zero b t h = refl
zero_or (suc a) b t h = absurd (omega (arith, leb→le 2 b (rw (eqb-suc-zero a) at t)))

or_zero : (a b : ℕ) → (b < 2 → a ≡ 0) → (eqb a 0 || leb 2 b) ≡ true
or_zero zero b h = refl
or_zero (suc a) b h = rw (eqb-suc-zero a) (le-leb 2 b (lt_of_not-le (λ l. suc-ne-zero _ (h (omega arith)))))

pub segment_facts : (d : Description) → T (is_segment d) → IsSegment d
unfolding is_segment
segment_facts d t =
    let kind = parts (leb d.kind 3) _ t in
    let ato = parts (leb d.ato 1) _ kind.1 in
    let least = parts (leb 8 d.block) _ ato.1 in
    let most = parts (leb d.block 4096) _ least.1 in
    let eights = parts (eqb (d.block % 8) 0) _ most.1 in
    let exponent = parts (leb d.exponent 3) _ eights.1 in
    let plain = parts (eqb d.exponent 0 || leb 2 d.kind) _ exponent.1 in
    let some = parts (leb 1 d.count) _ plain.1 in
    let count = parts (leb d.count 65536) _ some.1 in
    record {
      kind = leb→le _ _ kind.0;
      ato = leb→le _ _ ato.0;
      least = leb→le _ _ least.0;
      most = leb→le _ _ most.0;
      eights = eqb→eq _ _ eights.0;
      exponent = leb→le _ _ exponent.0;
      plain = zero_or _ _ plain.0;
      some = leb→le _ _ some.0;
      count = leb→le _ _ count.0;
      end = leb→le _ _ count.1;
    }

pub is_segment_lem : (d : Description) → IsSegment d → is_segment d ≡ true
unfolding is_segment
is_segment_lem d s =
    rw (
      le-leb d.kind 3 s.kind,
      le-leb d.ato 1 s.ato,
      le-leb 8 d.block s.least,
      le-leb d.block 4096 s.most,
      eq-eqb (d.block % 8) 0 s.eights,
      le-leb d.exponent 3 s.exponent,
      or_zero d.exponent d.kind s.plain,
      le-leb 1 d.count s.some,
      le-leb d.count 65536 s.count,
      le-leb (d.first + d.count) (2 ^ 63) s.end,
    )

pub segment_test : (d : Description) → IsSegment d → T (is_segment d)
segment_test d s = rw (is_segment_lem d s) tt

-- ---- the sizes

-- a block cut into 2 ^ e parts, e at most 3: nothing is left over
record Cut (e b : ℕ) : Type 0 where
  least : 1 ≤ 2 ^ e
  most : 2 ^ e ≤ 8
  whole : 2 ^ e * (b / 2 ^ e) ≡ b
  some : 1 ≤ b / 2 ^ e
  small : b / 2 ^ e ≤ b

cut : (e b : ℕ) → e ≤ 3 → 8 ≤ b → b % 8 ≡ 0 → Cut e b
cut zero b h l m = search rules
cut (suc zero) b h l m = search rules
cut (suc (suc zero)) b h l m = search rules
cut (suc (suc (suc zero))) b h l m = search rules
cut (suc (suc (suc (suc e)))) b h l m = absurd (omega arith)

between : (b : Bool) (x y : ℕ) → x ≤ y → (x ≤ cond b x y) × (cond b x y ≤ y)
between true x y h = (le_refl x, h)
between false x y h = (h, le_refl y)

pub record Sizes (d : Description) : Type 0 where
  pub intervals_least : 1 ≤ intervals_of d
  pub intervals_most : intervals_of d ≤ 8
  pub size_least : 1 ≤ size_of d
  pub size_most : size_of d ≤ 4096
  pub whole : intervals_of d * size_of d ≡ d.block
  pub stored_least : 1 ≤ stored_of d
  pub stored_most : stored_of d ≤ 4160

-- type 0 has no fields; every other has eight bytes behind each interval
pub stored_plain : (d : Description) → d.kind ≡ 0 → stored_of d ≡ d.block
unfolding stored_of
stored_plain d e = rw (eq-eqb d.kind 0 e)

pub stored_fields : (d : Description) → (d.kind ≡ 0 → ⊥) → stored_of d ≡ d.block + 8 * intervals_of d
unfolding stored_of
stored_fields d n = rw (ne_eqb d.kind 0 n)

module _ (d : Description) (s : IsSegment d) where
  intervals_cut : Cut d.exponent d.block
  intervals_cut = cut d.exponent d.block s.exponent s.least s.eights

  pub sizes : Sizes d
  unfolding intervals_of size_of stored_of
  sizes =
      let k = intervals_cut in
      let more : d.block ≤ d.block + 8 * 2 ^ d.exponent = omega arith in
      let b = between (eqb d.kind 0) d.block (d.block + 8 * 2 ^ d.exponent) more in
      record {
        intervals_least = k.least;
        intervals_most = k.most;
        size_least = k.some;
        size_most = omega arith;
        whole = k.whole;
        stored_least = omega arith;
        stored_most = omega arith;
      }

  pub stored_intervals : (d.kind ≡ 0 → ⊥) → stored_of d ≡ intervals_of d * (size_of d + 8)
  stored_intervals n =
      stored_fields d n ∙ omega (arith, sizes.whole, mul-add (intervals_of d) (size_of d) 8)

  pub length_most : length_of d ≤ 65536 * 4160
  unfolding length_of
  length_most = mul-le-mul s.count sizes.stored_most

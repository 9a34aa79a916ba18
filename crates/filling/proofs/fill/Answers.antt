-- `filling::fill`: the rules first; a segment that is filled is fresh, with fields or without.
use mathlib.Core.Path.{◌≡◌, sym, ◌∙◌}
use mathlib.Core.List.{List}
use Prim.Native.Nat.{ℕ, ◌+◌, ◌*◌, ◌≤◌}
use native.Mathlib.Omega.{arith}
use borrow.Author.Tests.{eq-eqb, ne_eqb}
use lib.ListN.{replicate}
use Rattle.std.proofs.lemmas.Result.{err_from_is_err_and}
use Rattle.answer.proofs.Outcome.{refuses_with, leaves}
use Rattle.segment.specs.declared.Description.{Description}
use Rattle.segment.specs.Segment.{IsSegment, intervals_of, size_of, length_of}
use Rattle.segment.proofs.Places.{span_flat, span_all, intervals_few}
use Rattle.segment.proofs.Rules.{fitting}
use Rattle.filling.specs.Fresh.{filled, fresh, fresh_intervals}
use mathlib.Core.Path.{ap}
use Rattle.filling.proofs.fill.Goals as goal

plain : (d : Description) (long : ℕ) (new : List ℕ) → long ≡ length_of d → d.kind ≡ 0 → new ≡ replicate long 0 → new ≡ fresh d
unfolding fresh
plain d long new e k n = n ∙ rw (eq-eqb d.kind 0 k, e)

fields : (d : Description) (new : List ℕ) (size n : ℕ) → (d.kind ≡ 0 → ⊥) → size ≡ size_of d → n ≡ intervals_of d → new ≡ fresh_intervals size (d.count * n) → new ≡ fresh d
unfolding fresh
fields d new size n k e f m = m ∙ rw (ne_eqb d.kind 0 k, e, f)

whole : (d : Description) (long size n : ℕ) → IsSegment d → (d.kind ≡ 0 → ⊥) → size ≡ size_of d → n ≡ intervals_of d → long ≡ length_of d → d.count * n * (size + 8) ≡ long
whole d long size n f k e g l = rw (e, g, l) (span_flat d f d.count k ∙ span_all d)

few : (d : Description) (n : ℕ) → IsSegment d → n ≡ intervals_of d → d.count * n ≤ 524288
few d n f e = rw e (intervals_few d f d.count f.count)

pub returns-in_err-s : goal.returns-in_err-s
unfolding filled
returns-in_err-s c =
    let p = err_from_is_err_and c.from_residual.result c.from_residual.ensures.1 in
    rw (p.1, p.2) (refuses_with _ _ _ _ c.in_err-s.ensures.answer)

pub returns-then-d-eq0 : goal.returns-then-d-eq0
unfolding filled
returns-then-d-eq0 c =
    leaves _ _ _ (sym c.in_ok-s.ensures.answer) (plain _ _ _ (fitting _ _ c.in_ok-s.ensures.answer).1 c.if-d-eq0.true c.fill_with.ensures)

pub overflow_mul-count : goal.overflow_mul-count
overflow_mul-count c = omega (arith, few _ _ (fitting _ _ c.in_ok-s.ensures.answer).0 (c.intervals.ensures ∙ ap intervals_of c.in_ok-s.ensures.numbers))

pub fill_intervals-requires : goal.fill_intervals-requires
fill_intervals-requires c =
    let f = fitting _ _ c.in_ok-s.ensures.answer in
    whole _ _ _ _ f.0 c.if-d-eq0.false (c.size.ensures ∙ ap size_of c.in_ok-s.ensures.numbers) (c.intervals.ensures ∙ ap intervals_of c.in_ok-s.ensures.numbers) f.1

pub returns : goal.returns
unfolding filled
returns c =
    leaves _ _ _ (sym c.in_ok-s.ensures.answer)
    (fields _ _ _ _ c.if-d-eq0.false (c.size.ensures ∙ ap size_of c.in_ok-s.ensures.numbers) (c.intervals.ensures ∙ ap intervals_of c.in_ok-s.ensures.numbers) c.fill_intervals.ensures)

-- A segment is what its numbers are: that they describe one has one proof at most.
-- Assumes nothing.
use mathlib.Core.Path.{◌≡◌, ap, subst}
use Rattle.std.proofs.Math.Nat.{ℕ_set}
use Rattle.std.specs.Coded.{le_prop}
use Rattle.segment.specs.declared.Description.{Description}
use Rattle.segment.specs.declared.Segment.{Segment}
use Rattle.segment.specs.Segment.{IsSegment}

segment_of_numbers : (d : Description) → IsSegment d → Segment
segment_of_numbers d s = record { numbers = d; is = s }

one_proof : (d : Description) → IsProp (IsSegment d)
one_proof d = hlevel (le_prop, ℕ_set)

pub segments_same : (x y : Segment) → x.numbers ≡ y.numbers → x ≡ y
unfolding segment_of_numbers
segments_same x y e =
    subst (λ (d : Description). (s : IsSegment d) → segment_of_numbers x.numbers x.is ≡ segment_of_numbers d s) e
    (λ s. ap (segment_of_numbers x.numbers) (one_proof x.numbers x.is s)) y.is

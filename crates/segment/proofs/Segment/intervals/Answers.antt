-- `segment::Segment::intervals`: at most eight, so the shift loses nothing.
use mathlib.Core.Path.{◌≡◌, ◌∙◌}
use Prim.Native.Nat.{◌*◌, ◌%◌, ◌^◌}
use native.Mathlib.Nat.{mod-eq_of_lt}
use native.Mathlib.Omega.{arith}
use Rattle.segment.specs.declared.Description.{Description}
use Rattle.segment.specs.Segment.{IsSegment, intervals_of}
use Rattle.segment.proofs.Laws.{sizes}
use Rattle.segment.proofs.Segment.intervals.Goals as goal

shifted : (d : Description) → IsSegment d → 1 * 2 ^ d.exponent % 2 ^ 64 ≡ intervals_of d
unfolding intervals_of
shifted d s = mod-eq_of_lt (omega (arith, (sizes d s).intervals_most)) ∙ omega arith

pub returns : goal.returns
returns c = shifted _ c.args.self.is

-- `segment::Segment::stored`: one answer for type 0, one for the types with fields.
use mathlib.Core.Path.{sym}
use native.Mathlib.Omega.{arith}
use Rattle.segment.proofs.Laws.{sizes, stored_plain, stored_fields}
use Rattle.segment.proofs.Segment.stored.Goals as goal

pub returns-then-d-eq0 : goal.returns-then-d-eq0
returns-then-d-eq0 c = sym (stored_plain _ c.if-d-eq0.true)

pub overflow_mul-result : goal.overflow_mul-result
overflow_mul-result c = omega (arith, (sizes _ c.args.self.is).intervals_most, c.intervals.ensures)

pub overflow_add-result : goal.overflow_add-result
overflow_add-result c = omega (arith, (sizes _ c.args.self.is).intervals_most, c.intervals.ensures, c.args.self.is.most)

pub returns : goal.returns
returns c = rw c.intervals.ensures (sym (stored_fields _ c.if-d-eq0.false))

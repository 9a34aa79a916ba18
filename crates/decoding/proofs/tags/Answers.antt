-- `decoding::tags`: the longest form has room for them, and no other brings them.
use mathlib.Core.Path.{sym, ◌∙◌}
use native.Mathlib.Omega.{arith}
use Rattle.decoding.proofs.Laws.{within}
use Rattle.decoding.proofs.tags.Goals as goal

pub read4-requires : goal.read4-requires
read4-requires c = omega (arith, (within c.args.f).tags (sym c.is_long.ensures ∙ c.if-is_long.true))

pub read2-requires : goal.read2-requires
read2-requires c = omega (arith, (within c.args.f).tags (sym c.is_long.ensures ∙ c.if-is_long.true))

pub read2-requires-then-is_long : goal.read2-requires-then-is_long
read2-requires-then-is_long c = omega (arith, (within c.args.f).tags (sym c.is_long.ensures ∙ c.if-is_long.true))

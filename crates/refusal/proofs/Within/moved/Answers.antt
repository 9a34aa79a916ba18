-- `refusal::Within::moved`: the code decides, and neither product is large.
use Prim.Native.Nat.{ℕ, ◌*◌}
use mathlib.Core.Path.{sym, ap, ◌∙◌}
use native.Mathlib.Omega.{arith}
use Rattle.refusal.proofs.Rules.{moved_plain, moved_whole, moved_most}
use Rattle.refusal.proofs.Within.moved.Goals as goal

pub overflow_mul-result : goal.overflow_mul-result
overflow_mul-result c = omega (arith, (moved_most _ c.args.self.command c.args.self.segment.is c.args.self.few).0)

pub returns-then-c-eq0 : goal.returns-then-c-eq0
returns-then-c-eq0 c = sym (moved_plain _ _ c.if-c-eq0.true)

pub overflow_mul-result-2 : goal.overflow_mul-result-2
overflow_mul-result-2 c = rw c.stored.ensures (omega (arith, (moved_most _ c.args.self.command c.args.self.segment.is c.args.self.few).1))

pub returns : goal.returns
returns c = ap (λ (x : ℕ). c.args.self.command.length * x) c.stored.ensures ∙ sym (moved_whole _ _ c.if-c-eq0.false)

-- `answer::refused_if`: by what holds.
use mathlib.Core.Path.{refl}
use Rattle.answer.proofs.refused_if.Goals as goal

pub returns-then-holds : goal.returns-then-holds
returns-then-holds c = rw c.if-holds.true refl

pub returns : goal.returns
returns c = rw c.if-holds.false refl

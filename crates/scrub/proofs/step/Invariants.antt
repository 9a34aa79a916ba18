-- `scrub::step`: what has been found, with the blocks that are left, gives what all of them give.
use Rattle.scrub.proofs.Laws.{Going}
use Rattle.scrub.proofs.step.Given as goal

abbrev pub invariant-loop-judged : goal.invariant-loop-judged
invariant-loop-judged l = Going l.d.numbers l.s l.place l.count l.so_far l.judged

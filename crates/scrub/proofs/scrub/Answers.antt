-- `scrub::scrub`: a refused call hands back its place; one in order, what its step leaves.
use Rattle.std.proofs.Common.{◌∙◌, arith}
use Rattle.scrub.proofs.Laws.{call_fits, call_room, call_refused, call_done}
use Rattle.scrub.proofs.scrub.Goals as goal

pub returns-in-Err : goal.returns-in-Err
returns-in-Err c = c.refused.ensures ∙ call_refused _ _ _ _ _ c.in-Err.ensures.answer

pub step-judged-requires : goal.step-judged-requires
step-judged-requires c =
    let fits = call_fits _ _ _ c.args.blocks c.in-Ok.ensures.answer in
    rw c.in-Ok.ensures.numbers (fits.1, fits.2)

pub overflow_add-next : goal.overflow_add-next
overflow_add-next c =
    omega (arith, call_room _ _ _ _ c.in-Ok.ensures.answer (rw c.in-Ok.ensures.numbers at c.step-judged.ensures.stepped))

pub returns : goal.returns
returns c =
    rw c.unwrap_or.ensures (call_done _ _ _ _ c.in-Ok.ensures.answer (rw c.in-Ok.ensures.numbers at c.step-judged.ensures.stepped))

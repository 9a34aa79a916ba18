-- `lamptassel::lamptassel_scrub`: the numbers that `scrub::scrub` hands back.
use Rattle.lamptassel.proofs.Laws.{scrub_told}
use Rattle.lamptassel.proofs.lamptassel_scrub.Goals as goal

pub returns : goal.returns
returns c = scrub_told _ _ _ _ _ _ _ c.described-d.ensures c.scrub-s.ensures c.number.ensures

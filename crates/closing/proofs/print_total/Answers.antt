-- `closing::print_total`: words and numbers, one after another, each with room left for those behind it.
use native.Mathlib.Omega.{arith}
use Rattle.text.proofs.Ends.{labelled_end}
use Rattle.closing.specs.Closing.{intervals_text, faults_text, skipped_text}
use Rattle.closing.proofs.ClosingLaws.{numbers_printed}
use Rattle.closing.proofs.print_total.Goals as goal

pub labelled-requires-2 : goal.labelled-requires-2
unfolding intervals_text
labelled-requires-2 c = omega (arith, c.requires, labelled_end intervals_text _ _ c.labelled.ensures.written)

pub labelled-requires-3 : goal.labelled-requires-3
unfolding intervals_text faults_text
labelled-requires-3 c =
    omega (
      arith,
      c.requires,
      labelled_end intervals_text _ _ c.labelled.ensures.written,
      labelled_end faults_text _ _ c.labelled-2.ensures.written,
    )

pub returns : goal.returns
unfolding intervals_text faults_text skipped_text
returns c = numbers_printed _ _ _ c.labelled.ensures c.labelled-2.ensures c.labelled-3.ensures

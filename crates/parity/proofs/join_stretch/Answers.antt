-- `parity::join_stretch`: each of its three calls does what the stretch's definition says.
use Rattle.parity.proofs.Stretches.{stretch_of_joined}
use borrow.Author.Rules.{rules}
use Rattle.parity.proofs.join_stretch.Goals as goal

pub returns : goal.returns
returns c =
    stretch_of_joined _ _ _ _ _ _ _ _ _ _ c.requires.0 (search rules) (search rules) c.fill_with.ensures c.xor_stretch.ensures c.xor_stretch-2.ensures

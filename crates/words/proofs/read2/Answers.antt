-- `words::read2`: what std reads from so many bytes is the number at the place.
use mathlib.Core.Path.{sym, ◌∙◌}
use Rattle.words.proofs.BigEndian.{two_there}
use Rattle.words.proofs.read2.Goals as goal

pub returns : goal.returns
returns c = c.from_be_bytes.ensures ∙ sym (two_there _ _ c.requires)

-- `records::described_by`: each field at its place.
use mathlib.Core.Path.{◌∙◌}
use Rattle.records.proofs.RecordLaws.{described_made}
use Rattle.records.proofs.described_by.Goals as goal

pub returns : goal.returns
returns c = c.described.ensures ∙ described_made _ c.read2-block.ensures c.read_at-first.ensures c.read2-count.ensures

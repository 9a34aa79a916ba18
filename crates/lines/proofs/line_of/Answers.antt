-- `lines::line_of`: the fields stand behind the data.
use Rattle.lines.proofs.LineLaws.{line_made}
use Rattle.lines.proofs.line_of.Goals as goal

pub returns : goal.returns
returns c = line_made _ _ _ _ _ _ _ _ _ _ c.field_of-field.ensures c.stored_guard.ensures c.stored_application.ensures c.stored_reference.ensures c.state_of.ensures

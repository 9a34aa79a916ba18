-- `refusal::Within::buffer`: VERIFY has no bytes, unless it compares.
use mathlib.Core.Path.{sym, ap, ◌∙◌}
use Rattle.command.specs.Compares.{is_verify}
use Rattle.refusal.proofs.Rules.{room_verify, room_moved, room_compared}
use Rattle.refusal.proofs.Within.buffer.Goals as goal

pub returns-in-Read : goal.returns-in-Read
returns-in-Read c = c.moved.ensures ∙ sym (room_moved _ _ (ap is_verify c.in-Read.is))

pub returns-in-Write : goal.returns-in-Write
returns-in-Write c = c.moved-in-Write.ensures ∙ sym (room_moved _ _ (ap is_verify c.in-Write.is))

pub returns-then-compares : goal.returns-then-compares
returns-then-compares c = c.moved-then-compares.ensures ∙ sym (room_compared _ _ (sym c.compares.ensures ∙ c.if-compares.true))

pub returns-else-compares : goal.returns-else-compares
returns-else-compares c = sym (room_verify _ _ (ap is_verify c.in-Verify.is) (sym c.compares.ensures ∙ c.if-compares.false))

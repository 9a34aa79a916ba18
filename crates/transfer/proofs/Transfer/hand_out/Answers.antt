-- `transfer::Transfer::hand_out`: whole blocks are copied, of others the user data is taken.
use mathlib.Core.Path.{sym, ◌∙◌}
use native.Mathlib.Omega.{arith}
use Rattle.segment.proofs.Places.{intervals_few}
use Rattle.transfer.proofs.Shapes.{moved_when_whole, parted, handed_whole, handed_parted, user_data_fits}
use Rattle.transfer.proofs.Transfer.hand_out.Goals as goal

pub copy-requires : goal.copy-requires
copy-requires c = c.requires.s_len ∙ sym (moved_when_whole _ _ c.args.self.shaped.described c.requires.fitted.plain (sym c.whole.ensures ∙ c.if-whole.true)) ∙ sym c.requires.fitted.room

pub returns-then-whole : goal.returns-then-whole
returns-then-whole c = c.copy.ensures ∙ sym (handed_whole _ _ _ (sym c.whole.ensures ∙ c.if-whole.true))

pub overflow_mul-count : goal.overflow_mul-count
overflow_mul-count c = rw c.intervals.ensures (omega (arith, intervals_few c.args.self.segment.numbers c.args.self.shaped.described c.args.self.command.length c.args.self.shaped.few))

pub take_user_data-requires : goal.take_user_data-requires
take_user_data-requires c = let f = user_data_fits _ c.args.self.command _ _ c.size-size.ensures c.intervals.ensures _ _ c.args.self.shaped c.requires.s_len c.requires.fitted (parted _ _ (sym c.whole.ensures ∙ c.if-whole.false)) in record { size_value = f.0; size_value_2 = f.1 }

pub returns : goal.returns
returns c = handed_parted _ _ _ _ _ _ (sym c.whole.ensures ∙ c.if-whole.false) c.size-size.ensures c.intervals.ensures c.take_user_data.ensures

-- `transfer::Transfer::store`: whole blocks are stored as received, others with new fields.
use mathlib.Core.Path.{sym, ◌∙◌}
use Rattle.transfer.proofs.Shapes.{store_fits, insert_fits, parted, stored_whole, stored_parted, marks_step}
use Rattle.transfer.proofs.Transfer.store.Goals as goal

pub store_blocks-requires : goal.store_blocks-requires
store_blocks-requires c = let f = store_fits _ c.args.self.command _ _ _ _ c.stored.ensures c.args.self.shaped c.requires.length_in_bounds c.requires.fitted (sym c.whole.ensures ∙ c.if-whole.true) in record { stored_value = f.0; stored_in_bounds = f.1 }

pub returns-then-whole : goal.returns-then-whole
returns-then-whole c = stored_whole _ _ _ _ _ _ (sym c.whole.ensures ∙ c.if-whole.true) c.store_blocks.ensures

pub insert_blocks-requires : goal.insert_blocks-requires
insert_blocks-requires c =
    let f = insert_fits _ c.args.self.command _ _ c.size-size.ensures c.intervals-intervals.ensures _ _ _ c.args.self.shaped c.requires.length_in_bounds c.requires.fitted (parted _ _ (sym c.whole.ensures ∙ c.if-whole.false)) in
    record { size_value = f.0; size_in_bounds = f.1; size_bound = (f.2.0, f.2.1, marks_step _ _ _ c.marks-marks.ensures) }

pub returns : goal.returns
returns c = stored_parted _ _ _ _ _ _ _ _ _ (sym c.whole.ensures ∙ c.if-whole.false) c.size-size.ensures c.intervals-intervals.ensures c.marks-marks.ensures c.insert_blocks.ensures

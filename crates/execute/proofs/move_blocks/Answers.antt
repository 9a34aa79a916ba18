-- `execute::move_blocks`: each operation on the transfer's own blocks.
use mathlib.Core.Path.{refl, ap}
use native.Mathlib.Omega.{arith}
use Rattle.command.specs.Compares.{is_verify}
use Rattle.execute.proofs.Outcomes.{within, part, fitted, blocks_are, read_moved, write_moved, verify_moved}
use Rattle.execute.proofs.move_blocks.Goals as goal

pub slice_bounds-hand_out-count : goal.slice_bounds-hand_out-count
slice_bounds-hand_out-count c = omega (arith, c.requires.at_value.1)

pub slice_bounds-hand_out-end : goal.slice_bounds-hand_out-end
slice_bounds-hand_out-end c = let pre = c.requires in within pre.ready _ _ pre.at_value.0 pre.at_value.1

pub hand_out-requires : goal.hand_out-requires
hand_out-requires c =
    let pre = c.requires in
    record { s_len = part pre.ready _ _ _ refl pre.at_value.0 pre.at_value.1; fitted = fitted pre.ready (ap is_verify c.in-Read.is) }

pub store-requires : goal.store-requires
store-requires c =
    let pre = c.requires in
    record { length_in_bounds = within pre.ready _ _ pre.at_value.0 refl; fitted = fitted pre.ready (ap is_verify c.in-Write.is) }

pub returns-in-Read : goal.returns-in-Read
returns-in-Read c =
    let pre = c.requires in
    read_moved _ _ _ _ c.in-Read.is _ _ (blocks_are _ _ _ _ _ pre.at_value.0 pre.at_value.1) c.hand_out.ensures

pub returns-in-Write : goal.returns-in-Write
returns-in-Write c =
    write_moved _ _ _ _ c.in-Write.is _ _ c.requires.at_value.0 c.store.ensures

pub returns-in-Verify : goal.returns-in-Verify
returns-in-Verify c = verify_moved _ _ _ _ c.in-Verify.is

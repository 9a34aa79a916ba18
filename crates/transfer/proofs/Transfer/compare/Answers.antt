-- `transfer::Transfer::compare`: a command that does not compare is good; of every other the blocks are compared.
use mathlib.Core.Path.{refl, sym, ◌∙◌}
use Rattle.transfer.proofs.Comparing.{compare_fits, compared_on, compared_none}
use Rattle.transfer.proofs.Transfer.compare.Goals as goal

pub returns-then-not-compares : goal.returns-then-not-compares
returns-then-not-compares c = sym (compared_none _ _ _ _ (sym c.compares.ensures ∙ c.if-not-compares.true))

pub compare_blocks-requires : goal.compare_blocks-requires
compare_blocks-requires c =
    let f = compare_fits _ c.args.self.command c.args.self.shaped _ _ c.requires (sym c.compares.ensures ∙ c.if-not-compares.false) _ c.cut.ensures in
    record { pair = f.0; stride_bound = f.1 }

pub returns : goal.returns
returns c =
    compared_on _ c.args.self.command c.args.self.shaped _ _ c.requires (sym c.compares.ensures ∙ c.if-not-compares.false) _ c.cut.ensures _ _ _ refl
    c.compare_blocks.ensures

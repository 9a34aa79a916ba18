-- `execute::perform`: both sides are judged, blocks compared, and only where all is good is a byte moved.
use mathlib.Core.Path.{refl, ap}
use native.Mathlib.Omega.{arith}
use Rattle.std.proofs.lemmas.Result.{err_from_is_err_and}
use Rattle.execute.proofs.Outcomes.{located, short, within, shaped, sent, paired, part, blocks_are, ends, refused_performed, good_performed}
use Rattle.execute.proofs.perform.Goals as goal

pub invariant_of-x : goal.invariant_of-x
invariant_of-x c = record { shaped = shaped c.args.a.ready }

pub offset-at-requires : goal.offset-at-requires
offset-at-requires c = located c.args.a.ready

pub span-requires : goal.span-requires
span-requires c = short c.args.a.ready

pub overflow_add-end : goal.overflow_add-end
overflow_add-end c = omega (arith, within c.args.a.ready _ _ c.offset-at.ensures (ends _ _ _ c.span.ensures), ap (λ l. l.segment) c.requires, c.well_formed)

pub slice_bounds-verdict-end : goal.slice_bounds-verdict-end
slice_bounds-verdict-end c =
    rw c.requires at (within c.args.a.ready _ _ c.offset-at.ensures (ends _ _ _ c.span.ensures))

pub verdict-requires : goal.verdict-requires
verdict-requires c =
    let pre = rw c.requires at c.args.a.ready in
    let there = part pre _ _ _ refl c.offset-at.ensures (ends _ _ _ c.span.ensures) in
    record { sided = (sent pre, λ n. there); paired = paired pre _ there }

pub returns-in_err-verdict : goal.returns-in_err-verdict
returns-in_err-verdict c =
    let p = err_from_is_err_and c.from_residual.result c.from_residual.ensures.1 in
    rw (p.1, p.2)
    (refused_performed _ _ _ _ _ (blocks_are _ _ _ _ _ c.offset-at.ensures (ends _ _ _ c.span.ensures)) _ c.in_err-verdict.ensures)

pub move_blocks-requires : goal.move_blocks-requires
move_blocks-requires c =
    record { ready = rw c.requires at c.args.a.ready; at_value = (c.offset-at.ensures, ends _ _ _ c.span.ensures) }

pub returns : goal.returns
returns c =
    good_performed _ _ _ _ _ (blocks_are _ _ _ _ _ c.offset-at.ensures (ends _ _ _ c.span.ensures)) c.in_ok-verdict.ensures _ c.move_blocks.ensures

-- `rules::rules`: field by field.
use mathlib.Core.Path.{◌≡◌, refl, ◌∙◌}
use mathlib.Core.Bool.{Bool, true, false, ◌&&◌}
use Rattle.rules.specs.Rules.{application_known, reference_known}
use Rattle.rules.proofs.Laws.{rules_are}
use Rattle.rules.proofs.rules.Goals as goal
use Rattle.rules.proofs.rules.Goals.{then-columns, else-columns, then-columns-2, else-columns-2}

asked : {r k v u : Bool} → k ≡ true → r ≡ v → v ≡ u → r ≡ (k && u)
asked o e m = rw o (e ∙ m)

not_asked : {r k : Bool} (u : Bool) → k ≡ false → r ≡ k → r ≡ (k && u)
not_asked {r} {k} u o e = rw o (e ∙ o)

pub returns : goal.returns
returns c =
    let application : c.if-columns.result ≡ (c.columns_of-columns.result.application && application_known c.args.d.numbers c.args.c) = elim c.if-columns.branch [
      | then-columns w ↦ asked w.if-columns.true w.result-is w.application_known.ensures
      | else-columns w ↦ not_asked _ w.if-columns.false w.result-is
    ] in
    let reference : c.if-columns-2.result ≡ (c.columns_of-columns.result.reference && reference_known c.args.d.numbers c.args.c) = elim c.if-columns-2.branch [
      | then-columns-2 w ↦ asked w.if-columns-2.true w.result-is w.reference_known.ensures
      | else-columns-2 w ↦ not_asked _ w.if-columns-2.false w.result-is
    ] in
    rw (c.application.ensures, c.mask.ensures)
    (rules_are _ c.args.c _ _ _ _ _ _ _ _ _ c.intervals.ensures c.size.ensures c.columns_of-columns.ensures refl refl application reference c.escape_of.ensures)

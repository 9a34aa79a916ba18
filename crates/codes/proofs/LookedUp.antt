-- What a row that was looked up tells of its code.
-- Assumes nothing.
use mathlib.Core.Path.{◌≡◌, sym, ap, ◌∙◌}
use mathlib.Core.Bool.{true, false, not}
use Prim.Native.Nat.{ℕ}
use borrow.Author.Tests.{eqb-true, eqb-false, not-true, not-false}
use lib.Dec.{eqb, ltb}
use Rattle.codes.specs.declared.Columns.{Columns}
use Rattle.codes.specs.Codes.{columns_of}
use Rattle.codes.proofs.Demands.{refused_above, fields_but_for_zero}

module _ (k : Columns) (n : ℕ) (e : k ≡ columns_of n) where
  pub refused_told : k.refused ≡ ltb 0b101 n
  refused_told = ap (λ (x : Columns). x.refused) e ∙ refused_above n

  pub fields_told : k.fields ≡ not (eqb n 0)
  fields_told = ap (λ (x : Columns). x.fields) e ∙ fields_but_for_zero n

  pub with_fields : k.fields ≡ true → n ≡ 0 → ⊥
  with_fields t = eqb-false n 0 (not-true _ (sym fields_told ∙ t))

  pub without_fields : k.fields ≡ false → n ≡ 0
  without_fields t = eqb-true n 0 (not-false _ (sym fields_told ∙ t))

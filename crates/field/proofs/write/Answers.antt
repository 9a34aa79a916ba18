-- `field::write`: the bytes of the one number are the field's.
use mathlib.Core.Path.{◌≡◌, ap, ◌∙◌}
use mathlib.Core.List.{List}
use Prim.Native.Nat.{ℕ, ◌+◌, ◌*◌, ◌^◌, ◌<◌}
use native.Mathlib.Omega.{arith}
use Rattle.words.specs.BigEndian.{bytes}
use Rattle.field.specs.Field.{field_bytes}
use Rattle.field.proofs.Laws.{field_number}
use Rattle.field.proofs.write.Goals as goal

written : (g a r w : ℕ) (new : List ℕ) → w ≡ 8 → a < 2 ^ 16 → r < 2 ^ 32 → new ≡ bytes w (g * 2 ^ 48 + (a * 2 ^ 32 + r)) → new ≡ field_bytes g a r
written g a r w new eight ha hr e = e ∙ ap (λ (w : ℕ). bytes w (g * 2 ^ 48 + (a * 2 ^ 32 + r))) eight ∙ field_number g a r ha hr

pub returns : goal.returns
returns c = written _ _ _ _ _ c.requires (omega arith) (omega arith) c.write.ensures

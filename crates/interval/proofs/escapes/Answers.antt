-- `interval::escapes`: by cases on the escape; where the application tag is another than FFFFh, the reference tag is not asked for.
use mathlib.Core.Path.{◌≡◌, refl}
use mathlib.Core.Bool.{false}
use mathlib.Core.List.{List}
use Prim.Native.Nat.{ℕ}
use lib.Dec.{eqb}
use borrow.Author.Tests.{eq-eqb, ne_eqb}
use Rattle.field.specs.Field.{stored_application, stored_reference}
use Rattle.interval.specs.declared.Escape.{Escape}
use Rattle.interval.specs.declared.Escape.TheVariants.{Never, Tag, Both}
use Rattle.interval.specs.Interval.{escapes}
use Rattle.interval.proofs.escapes.Goals as goal

module _ (e : Escape) (f : List ℕ) where
  none : e ≡ Never → false ≡ escapes e f
  unfolding escapes
  none m = rw m refl

  module _ (n : ℕ) (a : n ≡ stored_application f) where
    tagged : e ≡ Tag → eqb n 0xFFFF ≡ escapes e f
    unfolding escapes
    tagged m = rw (m, a) refl

    half : e ≡ Both → (n ≡ 0xFFFF → ⊥) → eqb n 0xFFFF ≡ escapes e f
    unfolding escapes
    half m d = rw (m, ← a, ne_eqb n 0xFFFF d) refl

    both : (m : ℕ) → e ≡ Both → n ≡ 0xFFFF → m ≡ stored_reference f → eqb m 0xFFFFFFFF ≡ escapes e f
    unfolding escapes
    both m b s w = rw (b, ← a, eq-eqb n 0xFFFF s, w) refl

pub returns-else-stored_application-eq65535 : goal.returns-else-stored_application-eq65535
returns-else-stored_application-eq65535 c = search half

pub returns-in-Never : goal.returns-in-Never
returns-in-Never c = search none

pub returns-in-Tag : goal.returns-in-Tag
returns-in-Tag c = search tagged

pub returns-then-stored_application-eq65535 : goal.returns-then-stored_application-eq65535
returns-then-stored_application-eq65535 c = search both

-- What a WRITE inserts, from the facts that decide it.
-- Assumes nothing.
use mathlib.Core.Path.{◌≡◌, sym, ap, ◌∙◌}
use mathlib.Core.Bool.{true, false, cond}
use Prim.Native.Nat.{ℕ, ◌+◌, ◌*◌, ◌/◌, ◌%◌, ◌^◌, ◌≤◌}
use native.Mathlib.Nat.{mul-add-mod_self_right, mul_right_comm, add-mul, div-add-mod', mul-le-mul}
use native.Mathlib.Omega.{arith}
use borrow.Author.Tests.{eq-eqb, ne_eqb}
use lib.Dec.{eqb}
use Rattle.segment.specs.declared.Description.{Description}
use Rattle.segment.specs.Segment.{IsSegment, intervals_of}
use Rattle.segment.proofs.Laws.{sizes}
use Rattle.command.specs.declared.Command.{Command}
use Rattle.command.specs.Tags.{long, tag_of, application_of}
use Rattle.insertion.specs.declared.Marks.{Marks}
use Rattle.marks.specs.Inserted.{inserted_application, inserted_reference, marks_of}

-- a factor may be reduced before it is multiplied
reduced : (a n m : ℕ) → a % m * n % m ≡ a * n % m
reduced a n m =
    sym (mul-add-mod_self_right (a / m * n) m (a % m * n))
    ∙ ap (λ (x : ℕ). (x + a % m * n) % m) (mul_right_comm (a / m) n m)
    ∙ ap (λ (x : ℕ). x % m) (sym (add-mul (a / m * m) (a % m) n) ∙ ap (λ (x : ℕ). x * n) (div-add-mod' a m))

module _ (d : Description) (c : Command) where
  pub application_off : d.ato ≡ 0 → inserted_application d c ≡ 0
  unfolding inserted_application
  application_off a = rw a

  pub application_tag : (d.ato ≡ 0 → ⊥) → long c ≡ true → inserted_application d c ≡ application_of c
  unfolding inserted_application
  application_tag a l = rw (ne_eqb d.ato 0 a, l)

  pub application_none : (d.ato ≡ 0 → ⊥) → long c ≡ false → inserted_application d c ≡ 0xFFFF
  unfolding inserted_application
  application_none a l = rw (ne_eqb d.ato 0 a, l)

  pub inserted_one : d.kind ≡ 1 → inserted_reference d c ≡ c.address % 2 ^ 32
  unfolding inserted_reference
  inserted_one k = rw (eq-eqb d.kind 1 k)

  pub inserted_tag : d.kind ≡ 2 → long c ≡ true → inserted_reference d c ≡ tag_of c
  unfolding inserted_reference
  inserted_tag k l = rw (k, l)

  pub inserted_address : (n : ℕ) → d.kind ≡ 2 → long c ≡ false → n ≡ intervals_of d → inserted_reference d c ≡ c.address % 2 ^ 32 * n % 2 ^ 32
  unfolding inserted_reference
  inserted_address n k l e =
      let one : d.kind ≡ 1 → ⊥ = λ o. omega arith in
      rw (ne_eqb d.kind 1 one, eq-eqb d.kind 2 k, l, e) (sym (reduced c.address (intervals_of d) (2 ^ 32)))

  pub inserted_none : (d.kind ≡ 1 → ⊥) → (d.kind ≡ 2 → ⊥) → inserted_reference d c ≡ 0
  unfolding inserted_reference
  inserted_none a b = rw (ne_eqb d.kind 1 a, ne_eqb d.kind 2 b)

  pub marks_are : (a r s : ℕ) → a ≡ inserted_application d c → r ≡ inserted_reference d c → s ≡ cond (eqb d.kind 3) 0 1
      → ◌≡◌ {A = Marks} (record { application = a; reference = r; step = s }) (marks_of d c)
  unfolding marks_of
  marks_are a r s p q e = rw (p, q, e)

  -- ---- a reduced address times the intervals of a block is small
  pub product_small : (a n : ℕ) → IsSegment d → n ≡ intervals_of d → a % 2 ^ 32 * n ≤ 2 ^ 32 * 8
  product_small a n s e = mul-le-mul {n₂ = 2 ^ 32} {m₂ = 8} (omega arith) (rw e (sizes d s).intervals_most)

-- "Type rules" and protect codes: the commands that pass both are those that the type allows.
-- Assumes nothing.
use mathlib.Core.Path.{◌≡◌, refl, sym, ap, ◌∙◌}
use mathlib.Core.Logic.{◌↔◌}
use mathlib.Core.Bool.{Bool, true, false, not}
use Prim.Native.Nat.{ℕ, ◌≤◌}
use native.Mathlib.Omega.{arith}
use borrow.Author.Tests.{eq-eqb, ne_eqb, eqb-true, eqb-false, le-ltb, ltb-false}
use lib.Dec.{eqb, ltb}
use Rattle.answer.specs.Answer.{refused_if, Answer}
use Rattle.answer.specs.Answer as answers
use Rattle.answer.specs.declared.Reason.TheVariants as reasons
use Rattle.segment.specs.declared.Description.{Description}
use Rattle.command.specs.declared.Command.{Command}
use Rattle.command.specs.Tags.{long}
use Rattle.refusal.specs.Refusal.{type_rules, code_rule}
use Rattle.refusal.proofs.Rules.{long_any, short_two, short_zero, short_other}
use Rattle.fresh.specs.Allowed.{Allowed}

no_operation : (a : Answer) → a ≡ (answers.refused reasons.OperationInvalid) → a ≡ answers.good → ⊥
no_operation a o g = let z : ◌≡◌ {A = ℕ} 0 1 = cc in omega arith

no_field : (a : Answer) → a ≡ (answers.refused reasons.FieldInvalid) → a ≡ answers.good → ⊥
no_field a f g = let z : ◌≡◌ {A = ℕ} 0 1 = cc in omega arith

module _ (d : Description) (c : Command) (fields : d.kind ≡ 0 → ⊥) where
  type_passes : Allowed d c → type_rules d c ≡ answers.good
  type_passes a = by (long c) refl (eqb c.code 0) refl
    where
      by : (l : Bool) → long c ≡ l → (z : Bool) → eqb c.code 0 ≡ z → type_rules d c ≡ answers.good
      by true l z e = sym (long_any d c l) ∙ ap (λ (two : Bool). refused_if (not two) reasons.OperationInvalid) (eq-eqb d.kind 2 (a.long l))
      by false l true e = short_zero d c l (eqb-true c.code 0 e)
      by false l false e =
          let some = eqb-false c.code 0 e in
          sym (short_other d c l (λ two. some (a.other l two)) some)
          ∙ ap (λ (plain : Bool). refused_if plain reasons.FieldInvalid) (ne_eqb d.kind 0 fields)

  long_passed : type_rules d c ≡ answers.good → long c ≡ true → d.kind ≡ 2
  long_passed g l = by (eqb d.kind 2) refl
    where
      by : (t : Bool) → eqb d.kind 2 ≡ t → d.kind ≡ 2
      by true e = eqb-true d.kind 2 e
      by false e =
          absurd
          (no_operation (type_rules d c)
          (sym (long_any d c l) ∙ ap (λ (two : Bool). refused_if (not two) reasons.OperationInvalid) e) g)

  other_passed : type_rules d c ≡ answers.good → long c ≡ false → d.kind ≡ 2 → c.code ≡ 0
  other_passed g l k = by (eqb c.code 0) refl
    where
      by : (z : Bool) → eqb c.code 0 ≡ z → c.code ≡ 0
      by true e = eqb-true c.code 0 e
      by false e = absurd (no_operation (type_rules d c) (short_two d c l k (eqb-false c.code 0 e)) g)

  code_passed : code_rule c ≡ answers.good → c.code ≤ 0b101
  unfolding code_rule
  code_passed g = by (ltb 0b101 c.code) refl
    where
      by : (o : Bool) → ltb 0b101 c.code ≡ o → c.code ≤ 0b101
      by true e = absurd (no_field (code_rule c) (ap (λ (over : Bool). refused_if over reasons.FieldInvalid) e) g)
      by false e = ltb-false 0b101 c.code e

  pub codes_allowed : ((type_rules d c ≡ answers.good) × (code_rule c ≡ answers.good)) ↔ Allowed d c
  unfolding code_rule
  codes_allowed = (
    λ two. record { code = code_passed two.1; other = other_passed two.0; long = long_passed two.0 },
    λ a. (type_passes a, ap (λ (over : Bool). refused_if over reasons.FieldInvalid) (le-ltb 0b101 c.code a.code)),
  )

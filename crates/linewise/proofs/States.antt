-- "State is `skipped` under the escape, else `guard`, else `ref` (type 1 only, the address's low four bytes expected), else `ok`."
-- Assumes nothing.
use mathlib.Core.Path.{◌≡◌, refl, ap, ◌∙◌}
use mathlib.Core.Bool.{Bool, true, false, not, ◌&&◌, ◌||◌, cond}
use mathlib.Core.List.{List}
use Prim.Native.Nat.{ℕ, ◌+◌, ◌%◌, ◌^◌}
use native.Mathlib.Nat.{mod-lt, mod-add-mod, mul-one, zero-add}
use native.Mathlib.Omega.{arith}
use borrow.Author.Tests.{eq-eqb}
use lib.Dec.{eqb, lit<}
use Rattle.guard.specs.Guard.{guard}
use Rattle.answer.specs.Answer as answers
use Rattle.answer.specs.declared.Field.TheVariants as fields
use Rattle.segment.specs.declared.Description.{Description}
use Rattle.segment.specs.Segment.{IsSegment, intervals_of, size_of}
use Rattle.interval.specs.declared.Place.{Place}
use Rattle.field.specs.Field.{data_of, field_of, stored_guard, stored_reference}
use Rattle.interval.specs.Interval.{guard_wrong, application_wrong, reference_wrong, judge_pieces, judge_interval}
use Rattle.words.proofs.Turns.{after}
use Rattle.judge.specs.Judge.{next_block}
use Rattle.judge.proofs.PlaceLaws.{place_after_block}
use Rattle.command.specs.Sixteen.{sixteen}
use Rattle.sides.specs.declared.Side.TheVariants.{Stored}
use Rattle.rules.specs.Rules.{columns_of, application_known, reference_known, first_tag, rules_of, start_of}
use Rattle.lines.specs.declared.State.{State}
use Rattle.lines.specs.declared.State.TheVariants.{Skipped, Guard, Ref, Ok}
use Rattle.lines.specs.Lines.{worded, state_of}
use Rattle.rules.specs.ReadAll.{read_all}

abbrev in_words : Bool → Bool → Bool → State
in_words skipped g r = cond skipped Skipped (cond g Guard (cond r Ref Ok))

worded_is : (a p : ℕ) (g r : Bool)
    → worded (cond g (answers.wrong fields.Guard a p) (cond false (answers.wrong fields.Application a p) (cond r (answers.wrong fields.Reference a p) answers.good))) ≡ cond g Guard (cond r Ref Ok)
worded_is a p true r = refl
worded_is a p false true = refl
worded_is a p false false = refl

-- in type 1 the reference is expected to be the place's tag; in the others nothing is
known : (a b x : Bool) → ((a || (b && false)) && x) ≡ (a && x)
known true b x = refl
known false true x = refl
known false false x = refl

pub state_in_words : (d : Description) (skipped : Bool) (p : Place) (s : List ℕ)
    → let f = field_of (size_of d) s in
    state_of (rules_of Stored d (read_all d)) skipped p s
    ≡ in_words skipped (not (eqb (stored_guard f) (guard (data_of (size_of d) s)))) (eqb d.kind 1 && not (eqb (stored_reference f) p.tag))
unfolding state_of judge_interval judge_pieces guard_wrong application_wrong reference_wrong rules_of sixteen columns_of application_known reference_known
state_in_words d skipped p s =
    let f = field_of (size_of d) s in
    ap (cond skipped Skipped)
    (rw known (worded_is p.address p.interval (not (eqb (stored_guard f) (guard (data_of (size_of d) s)))) (eqb d.kind 1 && not (eqb (stored_reference f) p.tag))))

-- "the address's low four bytes expected": the tag at block j, and the address that its line has
pub address_expected : (d : Description) (j : ℕ) → IsSegment d → d.kind ≡ 1
    → after (next_block (intervals_of d)) j (start_of d (read_all d)) ≡ record { address = d.first + j; interval = j; tag = (d.first + j) % 2 ^ 32 }
unfolding start_of sixteen first_tag intervals_of
address_expected d j g k =
    let tags : (d.first % 2 ^ 32 + j) % 2 ^ 32 ≡ (d.first + j) % 2 ^ 32 = mod-add-mod d.first (2 ^ 32) j in
    rw (eq-eqb d.kind 1 k, g.plain (omega (arith, k)))
    (place_after_block 1 j (record { address = d.first; interval = 0; tag = d.first % 2 ^ 32 }) (mod-lt d.first (lit< tt))
    ∙ rw (mul-one, zero-add, tags) refl)

-- One interval: whether it has the escape, and which of its fields is wrong.
use Rattle.std.specs.Prelude.{ℕ, zero, suc, ◌+◌, Bool, false, not, ◌&&◌, ◌||◌, cond, List, eqb, drop}
use Rattle.std.specs.Int.Bits.{bit_and}
use Rattle.guard.specs.Guard.{guard}
use Rattle.field.specs.Field.{stored_guard, stored_application, stored_reference, data_of, field_of}
use Rattle.answer.specs.Answer as answers
use Rattle.answer.specs.Answer.{Answer}
use Rattle.answer.specs.declared.Field.TheVariants as fields
use Rattle.interval.specs.declared.Escape.{Escape}
use Rattle.interval.specs.declared.Escape.TheVariants.{Never, Tag, Both}
use Rattle.interval.specs.declared.Rules.{Rules}
use Rattle.interval.specs.declared.Place.{Place}

-- "application tag FFFFh for types 1 and 2; FFFFh with reference FFFFFFFFh for type 3"
unfoldable pub escapes : Escape → List ℕ → Bool
escapes Never f = false
escapes Tag f = eqb (stored_application f) 0xFFFF
escapes Both f = eqb (stored_application f) 0xFFFF && eqb (stored_reference f) 0xFFFFFFFF

-- "If any interval of a block has it": k intervals are looked at
unfoldable pub any_escapes : Escape → ℕ → ℕ → List ℕ → Bool
any_escapes e size zero s = false
any_escapes e size (suc k) s = escapes e (field_of size s) || any_escapes e size k (drop (size + 8) s)

-- "Guard: always known"
unfoldable pub guard_wrong : Rules → List ℕ → List ℕ → Bool
guard_wrong r d f = r.guard && not (eqb (stored_guard f) (guard d))

-- "compared where the mask has ones"
unfoldable pub application_wrong : Rules → List ℕ → Bool
application_wrong r f = r.application && not (eqb (bit_and (stored_application f) r.mask) (bit_and r.expected r.mask))

unfoldable pub reference_wrong : Rules → Place → List ℕ → Bool
reference_wrong r p f = r.reference && not (eqb (stored_reference f) p.tag)

-- "in one interval guard, application, reference"
unfoldable pub judge_pieces : Rules → Place → List ℕ → List ℕ → Answer
judge_pieces r p d f =
    cond (guard_wrong r d f) (answers.wrong fields.Guard p.address p.interval)
    (cond (application_wrong r f) (answers.wrong fields.Application p.address p.interval)
    (cond (reference_wrong r p f) (answers.wrong fields.Reference p.address p.interval) answers.good))

unfoldable pub judge_interval : Rules → Place → List ℕ → Answer
judge_interval r p s = judge_pieces r p (data_of r.size s) (field_of r.size s)

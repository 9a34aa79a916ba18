-- What a step's blocks are judged by, and how it goes on, block by block. What a step promises is in `Scrub`.
use Rattle.std.specs.Prelude.{ℕ, ◌+◌, Bool, cond, ◌≡◌, ◌↔◌, Some, None}
use Rattle.std.specs.Option.{option_or}
use Rattle.segment.specs.declared.Description.{Description}
use Rattle.interval.specs.declared.Rules.{Rules}
use Rattle.sides.specs.declared.Side.TheVariants.{Stored}
use Rattle.rules.specs.Rules.{rules_of}
use Rattle.rules.specs.ReadAll.{read_all}
use Rattle.scrub.specs.declared.Found.{Found}

-- a description is of types 1 to 3, and r is what the listing and the scrub judge by
pub record AsListed (r : Rules) (d : Description) : Type 0 where
  pub not_zero : d.kind ≡ 0 → ⊥
  pub rules : r ≡ rules_of Stored d (read_all d)

-- there is a first exactly where there are faults
abbrev pub Named : Found → Type 0
Named f = (f.first ≡ None) ↔ (f.faults ≡ 0)

-- what has been found, and one block more, which has a fault or has none: the address of the first that has one is kept
abbrev pub with_block : Bool → ℕ → Found → Found
with_block faulty address f =
    cond faulty (record { faults = f.faults + 1; first = option_or f.first (Some address) }) f

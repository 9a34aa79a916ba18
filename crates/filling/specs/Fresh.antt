-- "Filling writes data zero and all eight field bytes FFh (answers 0, 1, 2)."
use Rattle.std.specs.Prelude.{ℕ, ◌*◌, cond, List, [], ◌++◌, eqb, length, replicate}
use Rattle.words.specs.Runs.{runs}
use Rattle.answer.specs.Outcome.{Outcome, leaving}
use Rattle.segment.specs.declared.Description.{Description}
use Rattle.segment.specs.Segment.{intervals_of, size_of, length_of}
use Rattle.segment.specs.Rules.{segment_rules}

-- a fresh interval: data zero, then eight bytes FFh
unfoldable pub fresh_interval : ℕ → List ℕ
fresh_interval size = replicate size 0x00 ++ replicate 8 0xFF

-- k fresh intervals
unfoldable pub fresh_intervals : ℕ → ℕ → List ℕ
fresh_intervals size k = runs (λ (t : ℕ) (l : List ℕ). fresh_interval size) (λ t. t) 0 k 0 []

-- a fresh segment; type 0 has no fields
unfoldable pub fresh : Description → List ℕ
fresh d = cond (eqb d.kind 0) (replicate (length_of d) 0x00) (fresh_intervals (size_of d) (d.count * intervals_of d))

-- "answers 0, 1, 2"
unfoldable pub filled : Description → List ℕ → Outcome (List ℕ)
filled d segment = leaving (segment_rules d (length segment)) segment (fresh d)

-- A refused filling leaves the segment.
-- Assumes nothing.
use mathlib.Core.Path.{◌≡◌}
use mathlib.Core.Bool.{false}
use mathlib.Core.List.{List}
use Prim.Native.Nat.{ℕ}
use lib.ListN.{length}
use Rattle.answer.specs.Answer.{is_good}
use Rattle.answer.proofs.Demands.{refused_leaves}
use Rattle.segment.specs.declared.Description.{Description}
use Rattle.segment.specs.Rules.{segment_rules}
use Rattle.filling.specs.Fresh.{fresh, filled}

-- "Any answer but 0 changes no lent byte"
pub fill_keeps : (d : Description) (s : List ℕ) → is_good (filled d s).answer ≡ false → (filled d s).left ≡ s
unfolding filled
fill_keeps d s = refused_leaves (segment_rules d (length s)) s (fresh d)

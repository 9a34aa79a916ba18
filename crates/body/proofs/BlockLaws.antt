-- The lines of blocks, one turn of a loop after another, and how many there are.
-- Assumes nothing.
use mathlib.Core.Path.{◌≡◌, refl, ◌∙◌}
use mathlib.Core.List.{List, [], ◌++◌}
use Prim.Native.Nat.{ℕ, zero, suc, ◌+◌, ◌-◌, ◌*◌, ◌<◌, ◌≤◌}
use native.Mathlib.Nat.{suc-mul}
use native.Mathlib.Omega.{arith}
use lib.ListN.{length, drop, length-append}
use Rattle.interval.specs.declared.Rules.{Rules}
use Rattle.interval.specs.declared.Place.{Place}
use Rattle.words.proofs.Turns.{turn_of}
use Rattle.judge.specs.Judge.{next_block}
use Rattle.paragraph.specs.Paragraph.{lines_in}
use Rattle.paragraph.proofs.ParagraphLaws.{block_length}
use Rattle.body.specs.Body.{block_lines}

module _ (r : Rules) where
  blocks_turned : (n : ℕ) (p : Place) (s : List ℕ)
      → block_lines r (suc n) p s ≡ lines_in r p s ++ block_lines r n (next_block r.intervals p) (drop (r.intervals * (r.size + 8)) s)
  unfolding block_lines
  blocks_turned n p s = refl

  pub block_turn : (n i : ℕ) (p : Place) (s : List ℕ) → 0 < n
      → lines_in r p (drop i s) ++ block_lines r (n - 1) (next_block r.intervals p) (drop (i + r.intervals * (r.size + 8)) s) ≡ block_lines r n p (drop i s)
  block_turn n i p s h =
      turn_of (lines_in r) (next_block r.intervals) (r.intervals * (r.size + 8)) (block_lines r) (λ a b. a ++ b) blocks_turned n i p s _ _ h refl refl

  pub blocks_none : (n : ℕ) (p : Place) (s : List ℕ) → n ≤ 0 → block_lines r n p s ≡ []
  unfolding block_lines
  blocks_none zero p s h = refl
  blocks_none (suc n) p s h = absurd (omega arith)

  pub blocks_length : (n : ℕ) (p : Place) (s : List ℕ) → length (block_lines r n p s) ≡ n * r.intervals
  unfolding block_lines
  blocks_length zero p s = omega arith
  blocks_length (suc n) p s =
      length-append (lines_in r p s) _
      ∙ omega (
        arith,
        block_length r p s,
        blocks_length n (next_block r.intervals p) (drop (r.intervals * (r.size + 8)) s),
        suc-mul n r.intervals,
      )

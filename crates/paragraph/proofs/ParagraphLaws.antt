-- The lines of a block, one turn of a loop after another; how many there are, and whose bytes they depend on.
-- Assumes nothing.
use mathlib.Core.Path.{◌≡◌, refl, ap}
use mathlib.Core.Bool.{Bool}
use mathlib.Core.List.{List, [], ◌∷◌}
use Prim.Native.Nat.{ℕ, zero, suc, ◌+◌, ◌-◌, ◌*◌, ◌<◌, ◌≤◌}
use native.Mathlib.Omega.{arith}
use lib.ListN.{length, take, drop}
use Rattle.interval.specs.declared.Rules.{Rules}
use Rattle.interval.specs.declared.Place.{Place}
use Rattle.words.proofs.Turns.{turn_of, own_of}
use Rattle.interval.proofs.IntervalLaws.{own_any}
use Rattle.field.proofs.Laws.{own_field}
use Rattle.judge.specs.Judge.{next_interval}
use Rattle.judge.proofs.BlockLaws.{own_interval}
use Rattle.lines.specs.declared.Line.{Line}
use Rattle.lines.specs.Lines.{state_of, line_of}
use Rattle.paragraph.specs.Paragraph.{interval_lines, lines_in}

-- ---- the lines of the intervals of a block
module _ (r : Rules) (k : Bool) where
  abbrev piece : ℕ × Place → List ℕ → Line
  piece at s = line_of r k at.0 at.1 s

  abbrev next : ℕ × Place → ℕ × Place
  next at = (at.0 + 1, next_interval at.1)

  abbrev lines : ℕ → ℕ × Place → List ℕ → List Line
  lines n at s = interval_lines r k n at.0 at.1 s

  turned : (n : ℕ) (at : ℕ × Place) (s : List ℕ) → lines (suc n) at s ≡ piece at s ∷ lines n (next at) (drop (r.size + 8) s)
  unfolding interval_lines
  turned n at s = refl

  pub interval_turn : (n i number : ℕ) (p : Place) (s : List ℕ) → 0 < n
      → line_of r k number p (drop i s) ∷ interval_lines r k (n - 1) (number + 1) (next_interval p) (drop (i + (r.size + 8)) s) ≡ interval_lines r k n number p (drop i s)
  interval_turn n i number p s h =
      turn_of piece next (r.size + 8) lines (λ l ls. l ∷ ls) turned n i (number, p) s _ _ h refl refl

  pub own_line : (number : ℕ) (p : Place) (s : List ℕ) → line_of r k number p (take (r.size + 8) s) ≡ line_of r k number p s
  unfolding line_of state_of
  own_line number p s = rw (own_field, own_interval)

  own_lines : (n : ℕ) (at : ℕ × Place) (s : List ℕ) → lines n at (take (n * (r.size + 8)) s) ≡ lines n at s
  unfolding interval_lines
  own_lines = own_of piece next (r.size + 8) lines (λ l ls. l ∷ ls) turned (λ at s. refl) (λ at s. own_line at.0 at.1 s)

  pub intervals_none : (n number : ℕ) (p : Place) (s : List ℕ) → n ≤ 0 → interval_lines r k n number p s ≡ []
  unfolding interval_lines
  intervals_none zero number p s h = refl
  intervals_none (suc n) number p s h = absurd (omega arith)

  pub intervals_length : (n number : ℕ) (p : Place) (s : List ℕ) → length (interval_lines r k n number p s) ≡ n
  unfolding interval_lines
  intervals_length zero number p s = refl
  intervals_length (suc n) number p s = ap suc (intervals_length n (number + 1) (next_interval p) (drop (r.size + 8) s))

-- ---- the lines of a block
module _ (r : Rules) where
  pub own_block_lines : (p : Place) (s : List ℕ) → lines_in r p (take (r.intervals * (r.size + 8)) s) ≡ lines_in r p s
  unfolding lines_in
  own_block_lines p s = rw own_any (own_lines r _ r.intervals (0, p) s)

  pub block_length : (p : Place) (s : List ℕ) → length (lines_in r p s) ≡ r.intervals
  unfolding lines_in
  block_length p s = intervals_length r _ r.intervals 0 p s

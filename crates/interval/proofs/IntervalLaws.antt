-- Intervals: the escape of any of them, and what it can depend on.
-- Assumes nothing.
use mathlib.Core.Path.{◌≡◌, refl, ap}
use mathlib.Core.Logic.{◌↔◌}
use mathlib.Core.Bool.{Bool, true, false, ◌||◌}
use mathlib.Core.List.{List}
use Prim.Native.Nat.{ℕ, zero, suc, ◌+◌, ◌-◌, ◌*◌, ◌<◌, ◌≤◌}
use native.Mathlib.Omega.{arith}
use lib.ListN.{take, drop}
use Rattle.words.proofs.Choice.{or_none}
use Rattle.field.specs.Field.{field_of}
use Rattle.field.proofs.Laws.{own_field}
use Rattle.interval.specs.declared.Escape.{Escape}
use Rattle.interval.specs.Interval.{escapes, any_escapes}
use Rattle.words.proofs.Turns.{turn_of, own_of, every_of}

-- ---- the escape of any of k intervals
module _ (e : Escape) (size : ℕ) where
  abbrev looked : Unit {0} → List ℕ → Bool
  looked u s = escapes e (field_of size s)

  abbrev asked : ℕ → Unit {0} → List ℕ → Bool
  asked k u s = any_escapes e size k s

  turned : (k : ℕ) (u : Unit {0}) (s : List ℕ) → asked (suc k) u s ≡ looked u s || asked k u (drop (size + 8) s)
  unfolding any_escapes
  turned k u s = refl

  module _ (k i : ℕ) (s : List ℕ) (b whole : Bool) where
    -- a turn of a loop
    pub any_next : 0 < k → b ≡ escapes e (field_of size (drop i s)) → b ≡ false → any_escapes e size k (drop i s) ≡ whole
        → any_escapes e size (k - 1) (drop (i + (size + 8)) s) ≡ whole
    any_next h m o w = rw o at (turn_of looked (λ u. u) (size + 8) asked ◌||◌ turned k i tt s b whole h m w)

    pub any_stop : 0 < k → b ≡ escapes e (field_of size (drop i s)) → b ≡ true → any_escapes e size k (drop i s) ≡ whole → true ≡ whole
    any_stop h m o w = rw o at (turn_of looked (λ u. u) (size + 8) asked ◌||◌ turned k i tt s b whole h m w)

  pub any_end : (k : ℕ) (s : List ℕ) (whole : Bool) → k ≤ 0 → any_escapes e size k s ≡ whole → false ≡ whole
  unfolding any_escapes
  any_end zero s whole h w = w
  any_end (suc k) s whole h w = absurd (omega arith)

  -- none has it exactly when each has it not
  pub any_none : (k : ℕ) (s : List ℕ) → (any_escapes e size k s ≡ false) ↔ ((j : ℕ) → j < k → escapes e (field_of size (drop (j * (size + 8)) s)) ≡ false)
  unfolding any_escapes
  any_none k s = every_of looked (λ u. u) (size + 8) asked ◌||◌ turned false false (λ u t. refl) or_none k tt s

  pub own_any : (k : ℕ) (s : List ℕ) → any_escapes e size k (take (k * (size + 8)) s) ≡ any_escapes e size k s
  unfolding any_escapes
  own_any k s = own_of looked (λ u. u) (size + 8) asked ◌||◌ turned (λ u t. refl) (λ u t. ap (escapes e) (own_field size t)) k tt s

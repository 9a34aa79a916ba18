-- The laws of what is asked piece by piece: one turn of a loop, and which elements the answer can depend on.
-- Assumes nothing.
use mathlib.Core.Path.{◌≡◌, refl, sym, ap, ap₂, ◌∙◌}
use mathlib.Core.Logic.{◌↔◌}
use mathlib.Core.List.{List}
use Prim.Native.Nat.{ℕ, zero, suc, ◌+◌, ◌-◌, ◌*◌, ◌<◌}
use native.Mathlib.Nat.{suc-add, suc-mul, zero-mul, zero-add, add_comm, le_of_suc-le-suc, not-suc-le-zero}
use native.Mathlib.Omega.{arith}
use lib.ListN.{take, drop}
use lib.Seq.{drop-drop, take-take}
use Rattle.words.proofs.Parts.{one_more, drop_take}

-- the value after `next` was taken j times
unfoldable pub after : {A : Type 0} → (A → A) → ℕ → A → A
after next zero t = t
after next (suc j) t = after next j (next t)

-- a value that stays as it is
pub after_same : {A : Type 0} (k : ℕ) (t : A) → after (λ u. u) k t ≡ t
unfolding after
after_same zero t = refl
after_same (suc k) t = after_same k t

-- ---- a question F that is asked piece by piece: of one piece more it is `op` of that piece's part and F of the pieces behind it
module _ {A C : Type 0} (piece : A → List ℕ → C) (next : A → A) (P : ℕ) where
  -- what piece j gives
  abbrev pub piece_at : A → List ℕ → ℕ → C
  piece_at t s j = piece (after next j t) (drop (j * P) s)

  pub piece_zero : (t : A) (s : List ℕ) → piece_at t s 0 ≡ piece t s
  unfolding after
  piece_zero t s = rw zero-mul refl

  pub piece_suc : (t : A) (s : List ℕ) (j : ℕ) → piece_at t s (suc j) ≡ piece_at (next t) (drop P s) j
  unfolding after
  piece_suc t s j = rw (suc-mul, add_comm (j * P) P, drop-drop) refl

  -- one piece more, before those of which something is known
  pub all_of : (c : C) (k : ℕ) (t : A) (s : List ℕ) → piece t s ≡ c → ((j : ℕ) → j < k → piece_at (next t) (drop P s) j ≡ c)
      → (j : ℕ) → j < suc k → piece_at t s j ≡ c
  all_of c k t s g each zero h = piece_zero t s ∙ g
  all_of c k t s g each (suc j) h = piece_suc t s j ∙ each j (le_of_suc-le-suc h)

  module _ {B : Type 0} (F : ℕ → A → List ℕ → B) (op : C → B → B)
      (turned : (k : ℕ) (t : A) (s : List ℕ) → F (suc k) t s ≡ op (piece t s) (F k (next t) (drop P s))) where
    -- a turn of a loop
    pub turn_of : (k i : ℕ) (t : A) (s : List ℕ) (c : C) (whole : B) → 0 < k → c ≡ piece t (drop i s) → F k t (drop i s) ≡ whole
        → op c (F (k - 1) (next t) (drop (i + P) s)) ≡ whole
    turn_of zero i t s c whole h m e = absurd (omega arith)
    turn_of (suc k) i t s c whole h m e =
        let down : suc k - 1 ≡ k = omega arith in
        rw (down, m, ← drop-drop P i s) (sym (turned k t (drop i s)) ∙ e)

    -- k pieces are answered by their own k * P elements, where each piece is by its own P
    pub own_of : ((t : A) (s : List ℕ) → F 0 t (take 0 s) ≡ F 0 t s) → ((t : A) (s : List ℕ) → piece t (take P s) ≡ piece t s)
        → (k : ℕ) (t : A) (s : List ℕ) → F k t (take (k * P) s) ≡ F k t s
    own_of none own zero t s = rw zero-mul (none t s)
    own_of none own (suc k) t s =
        rw (one_more k P)
        (turned k t (take (P + k * P) s)
        ∙ ap₂ op (sym (own t (take (P + k * P) s)) ∙ ap (piece t) (take-take P (P + k * P) s (omega arith)) ∙ own t s)
        (ap (F k (next t)) (drop_take P (k * P) s) ∙ own_of none own k (next t) (drop P s))
        ∙ sym (turned k t s))

    -- F is `unit` exactly when each piece gives `go`
    pub every_of : (unit : B) (go : C) → ((t : A) (s : List ℕ) → F 0 t s ≡ unit) → ((c : C) (b : B) → (op c b ≡ unit) ↔ ((c ≡ go) × (b ≡ unit)))
        → (k : ℕ) (t : A) (s : List ℕ) → (F k t s ≡ unit) ↔ ((j : ℕ) → j < k → piece_at t s j ≡ go)
    every_of unit go none split zero t s = (λ e j h. absurd (not-suc-le-zero h), λ each. none t s)
    every_of unit go none split (suc k) t s =
        let behind = every_of unit go none split k (next t) (drop P s) in (
          λ e. let two = (split (piece t s) _).0 (sym (turned k t s) ∙ e) in all_of go k t s two.0 (behind.0 two.1),
          λ each.
              turned k t s
              ∙ (split (piece t s) _).1 (sym (piece_zero t s) ∙ each 0 (omega arith), behind.1 (λ j h. sym (piece_suc t s j) ∙ each (suc j) (omega arith))),
        )

    -- in two runs: what k pieces give, joined with what the m behind them give
    pub two_of : (join : B → B → B) → ((t : A) (s : List ℕ) (b : B) → join (F 0 t s) b ≡ b) → ((c : C) (a b : B) → op c (join a b) ≡ join (op c a) b)
        → (k m : ℕ) (t : A) (s : List ℕ) → F (k + m) t s ≡ join (F k t s) (F m (after next k t) (drop (k * P) s))
    unfolding after
    two_of join none assoc zero m t s = rw (zero-add, zero-mul) (sym (none t s (F m t s)))
    two_of join none assoc (suc k) m t s =
        rw (suc-add, one_more k P, ← drop-drop (k * P) P s)
        (turned (k + m) t s ∙ ap (op (piece t s)) (two_of join none assoc k m (next t) (drop P s))
        ∙ assoc (piece t s) _ _ ∙ ap (λ (b : B). join b (F m (after next k (next t)) (drop (k * P) (drop P s)))) (sym (turned k t s)))

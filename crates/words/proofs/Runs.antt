-- The laws of what is made piece by piece: a loop fills a list with the pieces, one a turn.
-- Assumes nothing.
use mathlib.Core.Path.{◌≡◌, refl, sym, ap, ap₂, ◌∙◌}
use mathlib.Core.List.{List, ◌++◌, append_assoc}
use Prim.Native.Nat.{ℕ, zero, suc, ◌+◌, ◌-◌, ◌*◌, ◌<◌, ◌≤◌}
use native.Mathlib.Nat.{suc-mul, zero-mul}
use native.Mathlib.Omega.{arith}
use lib.ListN.{length, take, drop, length-append}
use lib.Seq.{drop-drop, take_at, length-take-le}
use Rattle.words.specs.Parts.{put}
use Rattle.words.specs.Runs.{runs}
use Rattle.words.proofs.Parts.{store_end}
use Rattle.words.proofs.Turns.{after, two_of}

-- of k pieces of p elements from i on, the first ends within the whole, and the others follow it
pub peel_within : (k i p n : ℕ) → 0 < k → i + k * p ≡ n → i + p ≤ n
peel_within zero i p n h e = absurd (omega arith)
peel_within (suc k) i p n h e = omega (arith, suc-mul k p)

pub peel_rest : (k i p n : ℕ) → 0 < k → i + k * p ≡ n → i + p + (k - 1) * p ≡ n
peel_rest zero i p n h e = absurd (omega arith)
peel_rest (suc k) i p n h e = let down : suc k - 1 ≡ k = omega arith in rw down (omega (arith, suc-mul k p))

pub peel_end : (k i p n : ℕ) → k ≤ 0 → i + k * p ≡ n → n ≤ i
peel_end zero i p n h e = omega (arith, zero-mul p)
peel_end (suc k) i p n h e = absurd (omega arith)

module _ {A : Type 0} (piece : A → List ℕ → List ℕ) (next : A → A) (P : ℕ) where
  pub fill_next : (k a i p : ℕ) (t : A) (src dst made whole : List ℕ) → 0 < k → length made ≡ p → a + p ≤ length dst → made ≡ piece t (drop i src)
      → take a dst ++ runs piece next P k t (drop i src) ≡ whole
      → take (a + p) (put a made dst) ++ runs piece next P (k - 1) (next t) (drop (i + P) src) ≡ whole
  unfolding runs put
  fill_next zero a i p t src dst made whole h long l m e = absurd (omega arith)
  fill_next (suc k) a i p t src dst made whole h long l m e =
      let down : suc k - 1 ≡ k = omega arith in
      let before : length (take a dst) ≡ a = length-take-le a dst (omega arith) in
      let seam : length (take a dst ++ made) ≡ a + p = rw (length-append, before, long) in
      ap₂ (λ (x y : List ℕ). x ++ y)
      (ap (take (a + p)) (sym (append_assoc (take a dst) made (drop (a + length made) dst)))
      ∙ take_at (take a dst ++ made) (drop (a + length made) dst) (a + p) seam)
      (rw (down, ← drop-drop P i src))
      ∙ append_assoc (take a dst) made _ ∙ ap (λ (x : List ℕ). take a dst ++ (x ++ runs piece next P k (next t) (drop P (drop i src)))) m ∙ e

  pub fill_end : (k a i : ℕ) (t : A) (src dst whole : List ℕ) → k ≤ 0 → length dst ≤ a
      → take a dst ++ runs piece next P k t (drop i src) ≡ whole → dst ≡ whole
  unfolding runs
  fill_end zero a i t src dst whole h l e = store_end dst whole a l e
  fill_end (suc k) a i t src dst whole h l e = absurd (omega arith)

  -- k + m pieces are k, and then the m behind them
  pub runs_two : (k m : ℕ) (t : A) (s : List ℕ) → runs piece next P (k + m) t s ≡ runs piece next P k t s ++ runs piece next P m (after next k t) (drop (k * P) s)
  unfolding runs
  runs_two =
      two_of piece next P (runs piece next P) ◌++◌ (λ k t s. refl) ◌++◌ (λ t s b. refl) (λ c a b. sym (append_assoc c a b))

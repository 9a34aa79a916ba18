-- Which block comparing names: the first that differs; and none where all are the same.
-- Assumes nothing.
use mathlib.Core.Path.{◌≡◌, refl, sym, ap, ◌∙◌}
use mathlib.Core.Logic.{◌↔◌}
use mathlib.Core.Bool.{Bool, true, false, cond, true≢false}
use mathlib.Core.List.{List}
use Prim.Native.Nat.{ℕ, zero, suc, ◌+◌, ◌*◌, ◌<◌}
use native.Mathlib.Nat.{zero-mul, add-zero, not-suc-le-zero, le_of_suc-le-suc}
use native.Mathlib.Omega.{arith}
use lib.ListN.{take, drop}
use Rattle.words.proofs.Parts.{drop_more}
use Rattle.answer.specs.Answer.{is_good, Answer}
use Rattle.answer.specs.Answer as answers
use Rattle.answer.proofs.Ladder.{not_both}
use Rattle.comparison.specs.Comparison.{same, compare_blocks}
use Rattle.comparison.proofs.SameLaws.{same_itself, same_is}

not_same : (x y : List ℕ) → same x y ≡ false → x ≡ y → ⊥
not_same x y n e = true≢false (sym (same_itself x) ∙ ap (same x) e ∙ n)

module _ (each : ℕ) where
  -- block j of two lists
  abbrev pub AlikeAt : List ℕ → List ℕ → ℕ → Type 0
  AlikeAt x y j = take each (drop (j * each) x) ≡ take each (drop (j * each) y)

  first : (x y : List ℕ) → take each x ≡ take each y → AlikeAt x y 0
  first x y e = rw zero-mul e

  first_is : (x y : List ℕ) → AlikeAt x y 0 → take each x ≡ take each y
  first_is x y e = rw zero-mul at e

  later : (x y : List ℕ) (j : ℕ) → AlikeAt (drop each x) (drop each y) j → AlikeAt x y (suc j)
  later x y j e = rw (← drop_more each j x, ← drop_more each j y) e

  earlier : (x y : List ℕ) (j : ℕ) → AlikeAt x y (suc j) → AlikeAt (drop each x) (drop each y) j
  earlier x y j e = rw (← drop_more each j x, ← drop_more each j y) at e

  from_first : (k : ℕ) (x y : List ℕ) → take each x ≡ take each y → ((j : ℕ) → j < k → AlikeAt (drop each x) (drop each y) j) → (j : ℕ) → j < suc k → AlikeAt x y j
  from_first k x y e f zero h = first x y e
  from_first k x y e f (suc j) h = later x y j (f j (le_of_suc-le-suc h))

  -- good exactly when every block is the same
  pub blocks_same : (k a : ℕ) (x y : List ℕ) → (compare_blocks each k a x y ≡ answers.good) ↔ ((j : ℕ) → j < k → AlikeAt x y j)
  unfolding compare_blocks
  blocks_same zero a x y = (λ e j h. absurd (not-suc-le-zero h), λ f. refl)
  blocks_same (suc k) a x y = by (same (take each x) (take each y)) refl (blocks_same k (a + 1) (drop each x) (drop each y))
    where
      by : (g : Bool) → same (take each x) (take each y) ≡ g
          → (compare_blocks each k (a + 1) (drop each x) (drop each y) ≡ answers.good) ↔ ((j : ℕ) → j < k → AlikeAt (drop each x) (drop each y) j)
          → (cond g (compare_blocks each k (a + 1) (drop each x) (drop each y)) (answers.differs a) ≡ answers.good) ↔ ((j : ℕ) → j < suc k → AlikeAt x y j)
      by true g others =
          (λ e. from_first k x y (same_is _ _ g) (others.0 e), λ f. others.1 (λ j h. earlier x y j (f (suc j) (omega arith))))
      by false g others =
          (λ e. absurd (not_both _ e refl), λ f. absurd (not_same _ _ g (first_is x y (f 0 (omega arith)))))

  -- block `at` is the first of k that differs, and `r` names it
  pub record FirstDiffers (k a : ℕ) (x y : List ℕ) (r : Answer) : Type 0 where
    pub at : ℕ
    pub within : at < k
    pub before : (j : ℕ) → j < at → AlikeAt x y j
    pub here : AlikeAt x y at → ⊥
    pub named : r ≡ answers.differs (a + at)

  pub blocks_differ : (k a : ℕ) (x y : List ℕ) → is_good (compare_blocks each k a x y) ≡ false → FirstDiffers k a x y (compare_blocks each k a x y)
  unfolding compare_blocks
  blocks_differ zero a x y w = absurd (true≢false w)
  blocks_differ (suc k) a x y w = by (same (take each x) (take each y)) refl (blocks_differ k (a + 1) (drop each x) (drop each y)) w
    where
      by : (g : Bool) → same (take each x) (take each y) ≡ g → let others = compare_blocks each k (a + 1) (drop each x) (drop each y) in
          (is_good others ≡ false → FirstDiffers k (a + 1) (drop each x) (drop each y) others)
          → is_good (cond g others (answers.differs a)) ≡ false → FirstDiffers (suc k) a x y (cond g others (answers.differs a))
      by true g f w =
          let d = f w in
          let moved : a + 1 + d.at ≡ a + suc d.at = omega arith in
          record {
            at = suc d.at;
            within = omega (arith, d.within);
            before = from_first d.at x y (same_is _ _ g) d.before;
            here = λ e. d.here (earlier x y d.at e);
            named = d.named ∙ ap answers.differs moved;
          }
      by false g f w =
          record {
            at = 0;
            within = omega arith;
            before = λ j h. absurd (not-suc-le-zero h);
            here = λ e. not_same _ _ g (first_is x y e);
            named = ap answers.differs (sym (add-zero a));
          }

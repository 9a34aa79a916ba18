-- The laws of the pieces that are compared, and of one turn of comparing: pieces, blocks.
-- Assumes nothing.
use mathlib.Core.Path.{◌≡◌, refl, ap, ◌∙◌}
use mathlib.Core.Bool.{Bool, true, ◌&&◌, cond}
use mathlib.Core.List.{List, [], ◌++◌}
use Prim.Native.Nat.{ℕ, zero, suc, ◌+◌, ◌-◌, ◌*◌, ◌<◌, ◌≤◌}
use native.Mathlib.Nat.{le_trans}
use native.Mathlib.Omega.{arith}
use lib.ListN.{length, take, drop}
use lib.Seq.{take-append-le, take_at, drop_at, length-take-le}
use Rattle.words.specs.Runs.{runs}
use Rattle.words.proofs.Parts.{one_more}
use Rattle.words.proofs.Runs.{runs_two}
use Rattle.words.proofs.Turns.{after_same}
use Rattle.blocks.proofs.Pieces.{runs_length, runs_behind}
use Rattle.answer.specs.Answer.{Answer}
use Rattle.answer.specs.Answer as answers
use Rattle.comparison.specs.declared.Cut.{Cut}
use Rattle.comparison.specs.Comparison.{same, compare_blocks}
use Rattle.comparison.specs.Inner.{parts_of}
use Rattle.comparison.proofs.SameLaws.{same_append}

module _ (k : Cut) where
  -- ---- the pieces
  pub parts_length : k.size ≤ k.stride → (n : ℕ) (s : List ℕ) → n * k.stride ≤ length s → length (parts_of k n s) ≡ n * k.size
  unfolding parts_of
  parts_length h n s l =
      runs_length (λ (t : ℕ) (l : List ℕ). take k.size l) (λ t. t) k.stride k.size (λ t l e. length-take-le k.size l (le_trans h e)) n 0 s l

  pub parts_own : k.size ≤ k.stride → (n : ℕ) (s r : List ℕ) → n * k.stride ≤ length s → parts_of k n (s ++ r) ≡ parts_of k n s
  unfolding parts_of
  parts_own h n s r l =
      runs_behind (λ (t : ℕ) (l : List ℕ). take k.size l) (λ t. t) k.stride (λ t l r e. take-append-le k.size l r (le_trans h e)) n 0 s r l

  parts_two : (n m : ℕ) (s : List ℕ) → parts_of k (n + m) s ≡ parts_of k n s ++ parts_of k m (drop (n * k.stride) s)
  unfolding parts_of
  parts_two n m s =
      let piece : ℕ → List ℕ → List ℕ = λ t l. take k.size l in
      runs_two piece (λ t. t) k.stride n m 0 s
      ∙ ap (λ (t : ℕ). runs piece (λ t. t) k.stride n 0 s ++ runs piece (λ t. t) k.stride m t (drop (n * k.stride) s)) (after_same n 0)

  -- ---- one piece more
  pub piece_turn : (n : ℕ) (x y : List ℕ) (g : Bool) → 0 < n → k.size ≤ length x → g ≡ same (take k.size x) (take k.size y)
      → same (parts_of k n x) y ≡ (g && same (parts_of k (n - 1) (drop k.stride x)) (drop k.size y))
  unfolding parts_of runs
  piece_turn zero x y g h l e = absurd (omega arith)
  piece_turn (suc n) x y g h l e =
      let down : suc n - 1 ≡ n = omega arith in
      let long : length (take k.size x) ≡ k.size = length-take-le k.size x l in
      let others = parts_of k n (drop k.stride x) in
      rw (down, e)
      (same_append (take k.size x) others y
      ∙ ap (λ (m : ℕ). same (take k.size x) (take m y) && same others (drop m y)) long)

  pub pieces_end : (n : ℕ) (x : List ℕ) → n ≤ 0 → same (parts_of k n x) [] ≡ true
  unfolding parts_of runs same
  pieces_end zero x h = refl
  pieces_end (suc n) x h = absurd (omega arith)

  -- ---- one block more
  pub block_turn : (n a : ℕ) (x y : List ℕ) (g : Bool) → 0 < n → k.size ≤ k.stride → k.pieces * k.stride ≤ length x
      → g ≡ same (parts_of k k.pieces x) (take (k.pieces * k.size) y)
      → compare_blocks (k.pieces * k.size) n a (parts_of k (n * k.pieces) x) y
      ≡ cond g
      (compare_blocks (k.pieces * k.size) (n - 1) (a + 1) (parts_of k ((n - 1) * k.pieces) (drop (k.pieces * k.stride) x)) (drop (k.pieces * k.size) y))
      (answers.differs a)
  unfolding compare_blocks
  block_turn zero a x y g h s l e = absurd (omega arith)
  block_turn (suc n) a x y g h s l e =
      let down : suc n - 1 ≡ n = omega arith in
      let first = parts_of k k.pieces x in
      let others = parts_of k (n * k.pieces) (drop (k.pieces * k.stride) x) in
      let long : length first ≡ k.pieces * k.size = parts_length s k.pieces x l in
      let two : parts_of k (suc n * k.pieces) x ≡ first ++ others = ap (λ (m : ℕ). parts_of k m x) (one_more n k.pieces) ∙ parts_two k.pieces (n * k.pieces) x in
      rw (down, e, two, take_at first others (k.pieces * k.size) long, drop_at first others (k.pieces * k.size) long)

pub blocks_end : (each n a : ℕ) (x y : List ℕ) → n ≤ 0 → answers.good ≡ compare_blocks each n a x y
unfolding compare_blocks
blocks_end each zero a x y h = refl
blocks_end each (suc n) a x y h = absurd (omega arith)

-- Document 02, "Compare while verifying": two lists block by block, and the first block that differs.
use Rattle.std.specs.Prelude.{ℕ, zero, suc, ◌+◌, Bool, true, false, ◌&&◌, cond, List, [], ◌∷◌, eqb, take, drop}
use Rattle.answer.specs.Answer.{Answer}
use Rattle.answer.specs.Answer as answers

-- whether two lists are the same, byte for byte
unfoldable pub same : List ℕ → List ℕ → Bool
same [] [] = true
same [] (y ∷ ys) = false
same (x ∷ xs) [] = false
same (x ∷ xs) (y ∷ ys) = eqb x y && same xs ys

-- "15 .., with the address of the first differing block": of k blocks of `each` bytes in x and in y, the first of them at address a
unfoldable pub compare_blocks : ℕ → ℕ → ℕ → List ℕ → List ℕ → Answer
compare_blocks each zero a x y = answers.good
compare_blocks each (suc k) a x y =
    cond (same (take each x) (take each y)) (compare_blocks each k (a + 1) (drop each x) (drop each y)) (answers.differs a)

-- The laws of fresh intervals end to end: the first of them, those behind, their fields and their data.
-- Assumes nothing.
use mathlib.Core.Path.{◌≡◌, refl, sym, ap, ap₂, ◌∙◌}
use mathlib.Core.List.{List, [], ◌++◌, append_assoc}
use Prim.Native.Nat.{ℕ, zero, suc, ◌+◌, ◌-◌, ◌*◌, ◌<◌, zero-le}
use native.Mathlib.Nat.{suc-mul, zero-mul, mul-zero, add_comm, add-mul, mul_assoc}
use native.Mathlib.Omega.{arith}
use lib.ListN.{length, take, drop, replicate, length-append, length-replicate, replicate-append-replicate}
use lib.Seq.{drop-drop, take_at, drop_at}
use Rattle.words.specs.Runs.{runs}
use Rattle.words.proofs.Turns.{after_same}
use Rattle.words.proofs.Runs.{runs_two}
use Rattle.field.specs.Field.{data_of, field_of}
use Rattle.blocks.specs.Blocks.{user_data}
use Rattle.blocks.proofs.Pieces.{runs_length}
use Rattle.filling.specs.Fresh.{fresh_interval, fresh_intervals}

module _ (size : ℕ) where
  interval_length : length (fresh_interval size) ≡ size + 8
  unfolding fresh_interval
  interval_length = length-append (replicate size 0x00) (replicate 8 0xFF) ∙ ap (λ (x : ℕ). x + 8) (length-replicate size 0x00)

  one_more : (k : ℕ) → fresh_intervals size (suc k) ≡ fresh_interval size ++ fresh_intervals size k
  unfolding fresh_intervals runs
  one_more k = refl

  parts : (k : ℕ) → fresh_intervals size (suc k) ≡ replicate size 0x00 ++ (replicate 8 0xFF ++ fresh_intervals size k)
  unfolding fresh_interval
  parts k = one_more k ∙ append_assoc (replicate size 0x00) (replicate 8 0xFF) (fresh_intervals size k)

  behind_one : (k : ℕ) → drop (size + 8) (fresh_intervals size (suc k)) ≡ fresh_intervals size k
  behind_one k = ap (drop (size + 8)) (one_more k) ∙ drop_at (fresh_interval size) (fresh_intervals size k) (size + 8) interval_length

  pub run_length : (k : ℕ) → length (fresh_intervals size k) ≡ k * (size + 8)
  unfolding fresh_intervals
  run_length k = runs_length (λ (t : ℕ) (l : List ℕ). fresh_interval size) (λ t. t) 0 (size + 8) (λ t l h. interval_length) k 0 [] (rw mul-zero zero-le)

  -- j + k fresh intervals are j and then k; behind the j are the k, and before the k are the j
  two : (j k : ℕ) → fresh_intervals size (j + k) ≡ fresh_intervals size j ++ fresh_intervals size k
  unfolding fresh_intervals
  two j k =
      runs_two (λ (t : ℕ) (l : List ℕ). fresh_interval size) (λ t. t) 0 j k 0 []
      ∙ ap₂ (λ (u : ℕ) (l : List ℕ). fresh_intervals size j ++ runs (λ (t : ℕ) (l : List ℕ). fresh_interval size) (λ t. t) 0 k u l) (after_same j 0)
      (ap (λ (n : ℕ). drop n []) (mul-zero j))

  behind : (j k : ℕ) → drop (j * (size + 8)) (fresh_intervals size (j + k)) ≡ fresh_intervals size k
  behind j k = ap (drop (j * (size + 8))) (two j k) ∙ drop_at (fresh_intervals size j) (fresh_intervals size k) (j * (size + 8)) (run_length j)

  front : (j k : ℕ) → take (j * (size + 8)) (fresh_intervals size (j + k)) ≡ fresh_intervals size j
  front j k = ap (take (j * (size + 8))) (two j k) ∙ take_at (fresh_intervals size j) (fresh_intervals size k) (j * (size + 8)) (run_length j)

  -- l fresh intervals out of a fresh run are fresh
  pub middle : (a l k : ℕ) → take (l * (size + 8)) (drop (a * (size + 8)) (fresh_intervals size (a + (l + k)))) ≡ fresh_intervals size l
  middle a l k = ap (take (l * (size + 8))) (behind a (l + k)) ∙ front l k

  first_field : (k : ℕ) → field_of size (fresh_intervals size (suc k)) ≡ replicate 8 0xFF
  unfolding field_of
  first_field k =
      ap (λ (x : List ℕ). take 8 (drop size x)) (parts k)
      ∙ ap (take 8) (drop_at (replicate size 0x00) (replicate 8 0xFF ++ fresh_intervals size k) size (length-replicate size 0x00))

  first_data : (k : ℕ) → data_of size (fresh_intervals size (suc k)) ≡ replicate size 0x00
  unfolding data_of
  first_data k =
      ap (take size) (parts k) ∙ take_at (replicate size 0x00) (replicate 8 0xFF ++ fresh_intervals size k) size (length-replicate size 0x00)

  -- the field of interval i of block j, of l blocks with n intervals each
  pub field_at : (n l j i : ℕ) → j < l → i < n
      → field_of size (drop (i * (size + 8)) (drop (j * (n * (size + 8))) (fresh_intervals size (l * n)))) ≡ replicate 8 0xFF
  field_at n l j i h m =
      let later = n - suc i + (l - suc j) * n in
      let here : j * n * (size + 8) + i * (size + 8) ≡ (j * n + i) * (size + 8) = sym (add-mul (j * n) i (size + 8)) in
      let blocks : suc j + (l - suc j) ≡ l = omega arith in
      let apart : l * n ≡ suc j * n + (l - suc j) * n = ap (λ (x : ℕ). x * n) (sym blocks) ∙ add-mul (suc j) (l - suc j) n in
      let all : l * n ≡ j * n + i + suc later = omega (arith, apart, suc-mul j n) in
      rw (drop-drop, ← mul_assoc j n (size + 8), here, all) (ap (field_of size) (behind (j * n + i) (suc later)) ∙ first_field later)

  -- the user data of fresh intervals is zero
  pub zeros : (k : ℕ) → user_data size k (fresh_intervals size k) ≡ replicate (k * size) 0x00
  unfolding user_data runs
  zeros zero = rw zero-mul refl
  zeros (suc k) =
      rw (suc-mul, add_comm (k * size) size)
      (ap₂ (λ (x y : List ℕ). x ++ y) (first_data k) (ap (user_data size k) (behind_one k) ∙ zeros k)
      ∙ replicate-append-replicate size (k * size) 0x00)

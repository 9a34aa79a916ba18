-- The laws of what is judged piece by piece: one turn of a loop, which piece the answer is of, and which elements it can depend on.
-- Assumes nothing.
use Rattle.std.proofs.Common.{◌≡◌, ℕ, zero, suc, ◌+◌, ◌-◌, ◌*◌, ◌<◌, ◌≤◌, true, false, ◌↔◌, List, take, drop, refl, ◌∙◌, ⊎_elim, true≢false, not-suc-le-zero, arith}
use Rattle.answer.specs.Answer.{is_good, or_else, Answer}
use Rattle.answer.specs.Answer as answers
use Rattle.answer.proofs.Ladder.{good_or, or_else_good, or_else_assoc}
use Rattle.words.proofs.Turns.{after, piece_at, piece_zero, piece_suc, all_of, turn_of, own_of, every_of, two_of}
use Rattle.judge.specs.FirstOf.{first_of}

module _ {A : Type 0} (judge : A → List ℕ → Answer) (next : A → A) (P : ℕ) where
  turned : (k : ℕ) (t : A) (s : List ℕ) → first_of judge next P (suc k) t s ≡ or_else (judge t s) (first_of judge next P k (next t) (drop P s))
  unfolding first_of
  turned k t s = refl

  module _ (k i : ℕ) (t : A) (s : List ℕ) (a whole : Answer) where
    -- a turn of a loop: after a good piece what is left gives what the whole gives, and a piece that is not good gives it at once
    pub first_next : 0 < k → a ≡ judge t (drop i s) → is_good a ≡ true → first_of judge next P k t (drop i s) ≡ whole
        → first_of judge next P (k - 1) (next t) (drop (i + P) s) ≡ whole
    first_next h m g e = rw g at (turn_of judge next P (first_of judge next P) or_else turned k i t s a whole h m e)

    pub first_stop : 0 < k → a ≡ judge t (drop i s) → is_good a ≡ false → first_of judge next P k t (drop i s) ≡ whole → a ≡ whole
    first_stop h m g e = rw g at (turn_of judge next P (first_of judge next P) or_else turned k i t s a whole h m e)

  pub first_end : (k : ℕ) (t : A) (s : List ℕ) (whole : Answer) → k ≤ 0 → first_of judge next P k t s ≡ whole → answers.good ≡ whole
  unfolding first_of
  first_end zero t s whole h e = e
  first_end (suc k) t s whole h e = absurd (omega arith)

  -- k pieces are judged by their own k * P elements, where each piece is by its own P
  pub own_bytes : ((t : A) (s : List ℕ) → judge t (take P s) ≡ judge t s)
      → (k : ℕ) (t : A) (s : List ℕ) → first_of judge next P k t (take (k * P) s) ≡ first_of judge next P k t s
  unfolding first_of
  own_bytes own = own_of judge next P (first_of judge next P) or_else turned (λ t s. refl) own

  -- good exactly when every piece is good
  pub first_good : (k : ℕ) (t : A) (s : List ℕ)
      → (first_of judge next P k t s ≡ answers.good) ↔ ((j : ℕ) → j < k → piece_at judge next P t s j ≡ answers.good)
  unfolding first_of
  first_good = every_of judge next P (first_of judge next P) or_else turned answers.good answers.good (λ t s. refl) or_else_good

  -- of k + m pieces the first wrong one is among the k, else among the m behind them
  pub first_two : (k m : ℕ) (t : A) (s : List ℕ)
      → first_of judge next P (k + m) t s ≡ or_else (first_of judge next P k t s) (first_of judge next P m (after next k t) (drop (k * P) s))
  unfolding first_of
  first_two = two_of judge next P (first_of judge next P) or_else turned or_else (λ t s b. refl) or_else_assoc

  -- piece `at` is the first of k that is not good, and `a` is its judgement
  pub record FirstWrong (k : ℕ) (t : A) (s : List ℕ) (a : Answer) : Type 0 where
    pub at : ℕ
    pub within : at < k
    pub earlier : (j : ℕ) → j < at → piece_at judge next P t s j ≡ answers.good
    pub here : piece_at judge next P t s at ≡ a
    pub wrong : is_good a ≡ false

  -- the answer that is not good is the judgement of the first piece that is not good
  pub first_found : (k : ℕ) (t : A) (s : List ℕ) → is_good (first_of judge next P k t s) ≡ false → FirstWrong k t s (first_of judge next P k t s)
  unfolding first_of
  first_found zero t s w = absurd (true≢false w)
  first_found (suc k) t s w =
      ⊎_elim
      (λ g.
      let f = first_found k (next t) (drop P s) (rw g at w) in
      rw g
      (record {
        at = suc f.at;
        within = omega arith;
        earlier = all_of judge next P answers.good f.at t s g f.earlier;
        here = piece_suc judge next P t s f.at ∙ f.here;
        wrong = f.wrong;
      }))
      (λ n.
      rw n
      (record { at = 0; within = omega arith; earlier = λ j h. absurd (not-suc-le-zero h); here = piece_zero judge next P t s; wrong = n }))
      (good_or (judge t s))

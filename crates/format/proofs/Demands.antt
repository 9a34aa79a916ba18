-- The format choice is that of document 01's sentences.
-- Assumes nothing.
use mathlib.Core.Path.{◌≡◌, ◌∙◌}
use mathlib.Core.Bool.{true, false}
use Prim.Native.Nat.{ℕ}
use lib.Dec.{T, leb, leb→le}
use Rattle.words.proofs.Choice.{and_left, and_right, chosen, not_chosen}
use Rattle.answer.specs.declared.Reason.TheVariants.{FieldInvalid}
use Rattle.format.specs.Choice.{choice_of, in_range, look, table9, sentences, illegal}
use Rattle.format.proofs.Agreement.{same}

-- "From SPT, PROTECT, FMTPINFO and usage (0-7, 0-1, 0-3, 0-7 ..)": as the sentences choose
pub within_ranges : (s p f u : ℕ) → in_range s p f u ≡ true → choice_of s p f u ≡ sentences s p f u
unfolding choice_of
within_ranges s p f u e =
    let all : T (in_range s p f u) = rw e tt in
    let pfu = and_right (leb s 7) _ all in
    let fu = and_right (leb p 1) _ pfu in
    chosen (in_range s p f u) (look table9 s p f u) (illegal FieldInvalid) all
    ∙ same s p f u (leb→le s 7 (and_left (leb s 7) _ all)) (leb→le p 1 (and_left (leb p 1) _ pfu))
    (leb→le f 3 (and_left (leb f 3) _ fu)) (leb→le u 7 (and_right (leb f 3) _ fu))

-- "outside these 6"
pub outside_ranges : (s p f u : ℕ) → in_range s p f u ≡ false → choice_of s p f u ≡ illegal FieldInvalid
unfolding choice_of
outside_ranges s p f u e = not_chosen (in_range s p f u) (look table9 s p f u) (illegal FieldInvalid) (λ t. rw e at t)

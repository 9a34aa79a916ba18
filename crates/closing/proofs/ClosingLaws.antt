-- The laws of the last line and of a refusal: their parts, one after another; and how long they can be.
-- Assumes nothing.
use mathlib.Core.Path.{◌≡◌, ap}
use mathlib.Core.List.{List, [], ◌∷◌, ◌++◌, append_assoc}
use Prim.Native.Nat.{ℕ, ◌≤◌}
use native.Mathlib.Omega.{arith}
use lib.ListN.{length, length-append}
use Rattle.answer.specs.Answer.{Answer, number_of}
use Rattle.writing.specs.declared.Pen.{Pen}
use Rattle.writing.specs.Printed.{Printed}
use Rattle.writing.proofs.Writing.{printed_then, printed_as}
use Rattle.digits.specs.Digits.{decimal}
use Rattle.digits.proofs.Digits.{decimal_most}
use Rattle.closing.specs.Closing.{intervals_text, faults_text, skipped_text, numbers_text, refused_text}

-- ---- a refusal
abbrev pub refused_word : List ℕ
refused_word = 0x72 ∷ 0x65 ∷ 0x66 ∷ 0x75 ∷ 0x73 ∷ 0x65 ∷ 0x64 ∷ 0x20 ∷ []

pub refused_printed : (a : Answer) {n : ℕ} {p q : Pen} → n ≡ number_of a → Printed (refused_word ++ (decimal n ++ (0x0A ∷ []))) p q → Printed (refused_text a) p q
unfolding refused_text
refused_printed a e w = printed_as (ap (λ (i : ℕ). refused_word ++ (decimal i ++ (0x0A ∷ []))) e) w

-- ---- the last line
module _ (l f k : ℕ) {p a b z : Pen} where
  pub numbers_printed : Printed (intervals_text ++ (decimal l ++ (0x20 ∷ []))) p a → Printed (faults_text ++ (decimal f ++ (0x20 ∷ []))) a b
      → Printed (skipped_text ++ (decimal k ++ (0x0A ∷ []))) b z → Printed (numbers_text l f k) p z
  unfolding numbers_text
  numbers_printed wl wf wk = printed_as (simp append_assoc) (printed_then wl (printed_then wf wk))

-- ---- how long they can be
pub numbers_most : (l f k : ℕ) → length (numbers_text l f k) ≤ 88
unfolding numbers_text intervals_text faults_text skipped_text
numbers_most l f k = simp length-append (omega (arith, decimal_most l, decimal_most f, decimal_most k))

pub refused_most : (a : Answer) → length (refused_text a) ≤ 29
unfolding refused_text
refused_most a = simp length-append (omega (arith, decimal_most (number_of a)))

-- "The listing program": the last line, and the one line of a refusal.
use Rattle.std.specs.Prelude.{ℕ, List, [], ◌∷◌, ◌++◌}
use Rattle.answer.specs.Answer.{Answer, number_of}
use Rattle.digits.specs.Digits.{decimal}

-- `intervals `, `faults `, `skipped `
unfoldable pub intervals_text : List ℕ
intervals_text = 0x69 ∷ 0x6E ∷ 0x74 ∷ 0x65 ∷ 0x72 ∷ 0x76 ∷ 0x61 ∷ 0x6C ∷ 0x73 ∷ 0x20 ∷ []

unfoldable pub faults_text : List ℕ
faults_text = 0x66 ∷ 0x61 ∷ 0x75 ∷ 0x6C ∷ 0x74 ∷ 0x73 ∷ 0x20 ∷ []

unfoldable pub skipped_text : List ℕ
skipped_text = 0x73 ∷ 0x6B ∷ 0x69 ∷ 0x70 ∷ 0x70 ∷ 0x65 ∷ 0x64 ∷ 0x20 ∷ []

-- "the last gives the number of interval lines, of those in state `guard` or `ref`, and of those `skipped`"
unfoldable pub numbers_text : ℕ → ℕ → ℕ → List ℕ
numbers_text all faults skipped =
    intervals_text ++ (decimal all ++ (0x20 ∷ faults_text ++ (decimal faults ++ (0x20 ∷ skipped_text ++ (decimal skipped ++ (0x0A ∷ []))))))

-- "a refusal prints one line only, `refused`, a space and the number"
unfoldable pub refused_text : Answer → List ℕ
refused_text a = 0x72 ∷ 0x65 ∷ 0x66 ∷ 0x75 ∷ 0x73 ∷ 0x65 ∷ 0x64 ∷ 0x20 ∷ decimal (number_of a) ++ (0x0A ∷ [])

-- "From SPT, PROTECT, FMTPINFO and usage (0-7, 0-1, 0-3, 0-7; outside these 6), after 002": its table 9, row by row.
use Rattle.std.specs.Prelude.{ℕ, Bool, true, false, not, ◌&&◌, ◌||◌, cond, List, [], ◌∷◌, eqb, leb, ltb, Result, Ok, Err}
use Rattle.answer.specs.declared.Refusal.{Refusal}
use Rattle.answer.specs.declared.Refusal.TheVariants.{Refused}
use Rattle.answer.specs.declared.Reason.{Reason}
use Rattle.answer.specs.declared.Reason.TheVariants.{FieldInvalid, ParameterInvalid}

-- an entry of the table: any value, one of some values, or any above a value
pub data Entry : Type 0 where
  any : Entry
  only : List ℕ → Entry
  above : ℕ → Entry

abbrev pub one_of : List ℕ → ℕ → Bool
one_of [] n = false
one_of (v ∷ vs) n = eqb n v || one_of vs n

abbrev pub meets : Entry → ℕ → Bool
meets any n = true
meets (only vs) n = one_of vs n
meets (above v) n = ltb v n

-- "Answer 0 comes with the type", a refusal with none
abbrev pub Choice : Type 0
Choice = Result ℕ Refusal

pub record Row : Type 0 where
  pub spt : Entry
  pub protect : Entry
  pub fmtpinfo : Entry
  pub usage : Entry
  pub gives : Choice

abbrev pub formatted : ℕ → Choice
formatted t = Ok t

-- "Illegal": in the command, or in the parameter list
abbrev pub illegal : Reason → Choice
illegal r = Err (Refused r)

-- "Answer 0 comes with the type; a refusal comes with type 0."
abbrev pub kind_of : Choice → ℕ
kind_of (Ok t) = t
kind_of (Err e) = 0

abbrev pub row : Entry → Entry → Entry → Entry → Choice → Row
row s p f u g = record { spt = s; protect = p; fmtpinfo = f; usage = u; gives = g }

abbrev pub is : ℕ → Entry
is n = only (n ∷ [])

-- | SPT | PROTECT | FMTPINFO | usage | |
abbrev pub table9 : List Row
table9 =
    row any (is 0) (is 0b00) (is 0b000) (formatted 0)
    ∷ row any (is 0) (is 0b00) (above 0b000) (illegal ParameterInvalid)
    ∷ row any (is 0) (is 0b01) any (illegal FieldInvalid)
    ∷ row any (is 0) (only (0b10 ∷ 0b11 ∷ [])) any (illegal FieldInvalid)
    ∷ row any (is 1) (is 0b00) (is 0b000) (formatted 0)
    ∷ row any (is 1) (is 0b00) (above 0b000) (illegal ParameterInvalid)
    ∷ row any (is 1) (is 0b01) any (illegal FieldInvalid)
    ∷ row (only (0b000 ∷ 0b001 ∷ 0b011 ∷ [])) (is 1) (is 0b10) (is 0b000) (formatted 1)
    ∷ row (only (0b000 ∷ 0b001 ∷ 0b011 ∷ [])) (is 1) (is 0b10) (above 0b000) (illegal ParameterInvalid)
    ∷ row (is 0b000) (is 1) (is 0b11) any (illegal FieldInvalid)
    ∷ row (is 0b001) (is 1) (is 0b11) (is 0b000) (formatted 2)
    ∷ row (is 0b001) (is 1) (is 0b11) (above 0b000) (illegal ParameterInvalid)
    ∷ row (is 0b011) (is 1) (is 0b11) (is 0b000) (illegal ParameterInvalid)
    ∷ row (is 0b011) (is 1) (is 0b11) (is 0b001) (formatted 3)
    ∷ row (is 0b011) (is 1) (is 0b11) (above 0b001) (illegal ParameterInvalid)
    -- "Reserved": "6 if .. SPT is neither 0, 1 nor 3"
    ∷ row (is 0b010) (is 1) (only (0b10 ∷ 0b11 ∷ [])) any (illegal FieldInvalid)
    ∷ row (only (0b100 ∷ 0b101 ∷ 0b110 ∷ 0b111 ∷ [])) (is 1) (only (0b10 ∷ 0b11 ∷ [])) any (illegal FieldInvalid)
    ∷ []

-- the first row that all four meet; numbers within the ranges meet one
abbrev pub look : List Row → ℕ → ℕ → ℕ → ℕ → Choice
look [] s p f u = illegal FieldInvalid
look (r ∷ rs) s p f u =
    cond (meets r.spt s && (meets r.protect p && (meets r.fmtpinfo f && meets r.usage u))) r.gives (look rs s p f u)

-- "(0-7, 0-1, 0-3, 0-7; outside these 6)"
abbrev pub in_range : ℕ → ℕ → ℕ → ℕ → Bool
in_range s p f u = leb s 7 && (leb p 1 && (leb f 3 && leb u 7))

unfoldable pub choice_of : ℕ → ℕ → ℕ → ℕ → Choice
choice_of s p f u = cond (in_range s p f u) (look table9 s p f u) (illegal FieldInvalid)

-- The paper's own sentences, which `proofs/Demands.antt` shows to choose the same.
-- "type .. for usage .., else 12"
abbrev pub by_usage : ℕ → ℕ → ℕ → Choice
by_usage u wanted t = cond (eqb u wanted) (formatted t) (illegal ParameterInvalid)

-- PROTECT is 1 and SPT is 0, 1 or 3
abbrev pub supports : ℕ → ℕ → Bool
supports p s = not (eqb p 0) && one_of (0 ∷ 1 ∷ 3 ∷ []) s

-- "FMTPINFO 00b gives type 0 for usage 0, else 12; 01b gives 6; 10b and 11b give 6 if PROTECT is 0 or SPT is neither 0, 1 nor
-- 3. Otherwise 10b gives type 1 for usage 0, else 12. 11b: SPT 0 gives 6; SPT 1 gives type 2 for usage 0, else 12; SPT 3
-- gives type 3 for usage 1, else 12."
unfoldable pub sentences : ℕ → ℕ → ℕ → ℕ → Choice
sentences s p f u =
    cond (eqb f 0b00) (by_usage u 0 0)
    (cond (eqb f 0b01) (illegal FieldInvalid)
    (cond (not (supports p s)) (illegal FieldInvalid)
    (cond (eqb f 0b10) (by_usage u 0 1)
    (cond (eqb s 0) (illegal FieldInvalid)
    (cond (eqb s 1) (by_usage u 0 2) (by_usage u 1 3))))))

-- "Eight protect codes choose the fields": document 01's table, line by line.
use Rattle.std.specs.Prelude.{ℕ, Bool, true, false, ◌||◌, cond, eqb}
use Rattle.codes.specs.declared.Columns.{Columns}

abbrev pub yes : Bool
yes = true

abbrev pub no : Bool
no = false

-- a line of the table: "moved with fields", "guard", "application", "reference"
abbrev pub served : Bool → Bool → Bool → Bool → Columns
served f g a r = record { refused = no; fields = f; guard = g; application = a; reference = r }

-- the line that says "refused", with nothing behind it: nothing is checked. Like every code but 000 it counts as moved with fields: "With
-- code 000 the buffer holds T × B bytes, otherwise T × S"
abbrev pub refused_code : Columns
refused_code = record { refused = yes; fields = yes; guard = no; application = no; reference = no }

-- | code | moved with fields | guard | application | reference |; the last line is "110, 111", and any greater number, which is no code
unfoldable pub columns_of : ℕ → Columns
columns_of code =
    cond (eqb code 0b000) (served no yes yes yes)
    (cond (eqb code 0b001 || eqb code 0b101) (served yes yes yes yes)
    (cond (eqb code 0b010) (served yes no yes yes)
    (cond (eqb code 0b011) (served yes no no no)
    (cond (eqb code 0b100) (served yes yes no no)
    refused_code))))

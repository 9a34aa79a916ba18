-- The table in the code: "eight rows, codes 000 to 111 in order".
use Rattle.std.specs.Prelude.{ℕ, ◌/◌, ◌%◌, ◌<◌, ◌≡◌, List, eqb, get_or}
use Rattle.codes.specs.declared.Columns.{Columns}
use Rattle.codes.specs.Codes.{columns_of}

-- a row is five binary digits, one for each column, and 1 is yes
abbrev pub named : ℕ → Columns
named row =
    record {
      refused = eqb (row / 0b10000 % 2) 1;
      fields = eqb (row / 0b01000 % 2) 1;
      guard = eqb (row / 0b00100 % 2) 1;
      application = eqb (row / 0b00010 % 2) 1;
      reference = eqb (row % 2) 1;
    }

-- row k is what code k chooses
pub record InOrder (t : List ℕ) : Type 0 where
  pub row : (k : ℕ) → k < 8 → named (get_or t k 0) ≡ columns_of k

-- "No other bit changes an answer.": which bits do.
use Rattle.std.specs.Prelude.{ℕ, ◌/◌, true, List, ◌≡◌, length, get_or, take, drop, Ok}
use Rattle.command.specs.declared.Operation.{Operation}
use Rattle.decoding.specs.declared.Form.{Form}
use Rattle.decoding.specs.Commands.{recognise, layout_of, is_long, check_bits}

-- n bytes from `at` on are the same in two commands
abbrev pub SameAt : ℕ → ℕ → List ℕ → List ℕ → Type 0
SameAt at n c c' = take n (drop at c) ≡ take n (drop at c')

-- two commands of one operation and form that are as long, and the same in the table's columns: protect code, and for VERIFY
-- the byte-check bits; address; length; in the 32-byte form byte 7 and the tags and the mask in 20-27
pub record SameColumns (o : Operation) (f : Form) (c c' : List ℕ) : Type 0 where
  pub long : length c ≡ length c'
  pub code : get_or c (layout_of f).protect 0 / 32 ≡ get_or c' (layout_of f).protect 0 / 32
  pub check : check_bits o (get_or c (layout_of f).protect 0) ≡ check_bits o (get_or c' (layout_of f).protect 0)
  pub address : SameAt (layout_of f).address (layout_of f).addressed c c'
  pub blocks : SameAt (layout_of f).length (layout_of f).lengthened c c'
  pub seven : is_long f ≡ true → get_or c 7 0 ≡ get_or c' 7 0
  pub tag : is_long f ≡ true → SameAt 20 4 c c'
  pub application : is_long f ≡ true → SameAt 24 2 c c'
  pub mask : is_long f ≡ true → SameAt 26 2 c c'

-- two commands, served or not, that may differ only in bits of which the table says nothing: as long, the same in byte 0, for
-- 7Fh in the service action, and in the columns of the operation and form that these name
pub record SameCommand (c c' : List ℕ) : Type 0 where
  pub long : length c ≡ length c'
  pub zeroth : get_or c 0 0 ≡ get_or c' 0 0
  pub action : get_or c 0 0 ≡ 0x7F → SameAt 8 2 c c'
  pub columns : (o : Operation) (f : Form) → recognise c ≡ Ok (o, f) → SameColumns o f c c'

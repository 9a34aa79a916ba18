-- "Commands": from a command's bytes to what it asks, or the refusal.
use Rattle.answer.specs.declared.Reason.{Reason}
use Rattle.std.specs.Prelude.{ℕ, ◌/◌, ◌%◌, Bool, true, false, not, ◌&&◌, cond, List, [], ◌∷◌, eqb, ltb, length, get_or, Result, Ok, Err}
use Rattle.words.specs.BigEndian.{number_at}
use Rattle.answer.specs.declared.Reason.TheVariants as reasons
use Rattle.command.specs.declared.Operation.{Operation}
use Rattle.command.specs.declared.Operation.TheVariants.{Read, Write, Verify}
use Rattle.command.specs.declared.Tags.{Tags}
use Rattle.command.specs.declared.Command.{Command}
use Rattle.decoding.specs.declared.Form.{Form}
use Rattle.decoding.specs.declared.Form.TheVariants.{Ten, Twelve, Sixteen, ThirtyTwo}
use Rattle.decoding.specs.declared.Layout.{Layout}

-- what is named, and what is decoded; or why nothing is
abbrev pub Named : Type 0
Named = Result (Operation × Form) Reason

abbrev pub Decoded : Type 0
Decoded = Result Command Reason

-- The table's operations: byte 0 of the three shorter forms, the service action of the longest.
pub record Row : Type 0 where
  pub value : ℕ
  pub operation : Operation
  pub form : Form

abbrev row : ℕ → Operation → Form → Row
row v o f = record { value = v; operation = o; form = f }

abbrev pub byte_zero : List Row
byte_zero =
    row 0x28 Read Ten ∷ row 0x2A Write Ten ∷ row 0x2F Verify Ten
    ∷ row 0xA8 Read Twelve ∷ row 0xAA Write Twelve ∷ row 0xAF Verify Twelve
    ∷ row 0x88 Read Sixteen ∷ row 0x8A Write Sixteen ∷ row 0x8F Verify Sixteen
    ∷ []

abbrev pub service_action : List Row
service_action = row 0x0009 Read ThirtyTwo ∷ row 0x000B Write ThirtyTwo ∷ row 0x000A Verify ThirtyTwo ∷ []

-- the row of a value, or "not served 5"
abbrev pub find : ℕ → List Row → Named
find v [] = Err reasons.OperationInvalid
find v (r ∷ rs) = cond (eqb v r.value) (Ok (r.operation, r.form)) (find v rs)

-- "empty command 3; byte 0 not served 5; for 7Fh, fewer than 10 bytes 3, service action not served 5"
unfoldable pub recognise : List ℕ → Named
recognise c =
    cond (eqb (length c) 0) (Err reasons.CommandLengthWrong)
    (cond (eqb (get_or c 0 0) 0x7F)
    (cond (ltb (length c) 10) (Err reasons.CommandLengthWrong) (find (number_at 8 2 c) service_action))
    (find (get_or c 0 0) byte_zero))

-- The table's columns: bytes, where the address and the length stand and how many bytes each has, the protect byte.
abbrev pub laid : ℕ → ℕ → ℕ → ℕ → ℕ → ℕ → Layout
laid bytes address addressed length lengthened protect =
    record {
      bytes = bytes;
      address = address;
      addressed = addressed;
      length = length;
      lengthened = lengthened;
      protect = protect;
    }

abbrev pub layout_of : Form → Layout
layout_of Ten = laid 10 2 4 7 2 1
layout_of Twelve = laid 12 2 4 6 4 1
layout_of Sixteen = laid 16 2 8 10 4 1
layout_of ThirtyTwo = laid 32 12 8 28 4 10

abbrev pub is_long : Form → Bool
is_long Ten = false
is_long Twelve = false
is_long Sixteen = false
is_long ThirtyTwo = true

-- "VERIFY has byte-check bits 2-1 of the protect byte"
abbrev pub check_bits : Operation → ℕ → ℕ
check_bits Read p = 0
check_bits Write p = 0
check_bits Verify p = p / 2 % 4

-- "expected first reference tag in 20-23, expected application tag in 24-25, application mask in 26-27" of the 32-byte form; each 0 in
-- the others
abbrev pub tags : Form → List ℕ → Tags
tags f c =
    record {
      reference = cond (is_long f) (number_at 20 4 c) 0;
      application = cond (is_long f) (number_at 24 2 c) 0;
      mask = cond (is_long f) (number_at 26 2 c) 0;
    }

-- protect code in bits 7-5 of the protect byte
unfoldable pub fields : Operation → Form → List ℕ → Command
fields o f c =
    let l = layout_of f in
    record {
      operation = o;
      long = is_long f;
      code = get_or c l.protect 0 / 32;
      check = check_bits o (get_or c l.protect 0);
      address = number_at l.address l.addressed c;
      length = number_at l.length l.lengthened c;
      tags = tags f c;
    }

-- "length not the command's 3; byte 7 not 18h 6"
unfoldable pub decode_as : Operation → Form → List ℕ → Decoded
decode_as o f c =
    cond (not (eqb (length c) (layout_of f).bytes)) (Err reasons.CommandLengthWrong)
    (cond (is_long f && not (eqb (get_or c 7 0) 0x18)) (Err reasons.FieldInvalid) (Ok (fields o f c)))

abbrev decode_named : Named → List ℕ → Decoded
decode_named (Ok (o, f)) c = decode_as o f c
decode_named (Err r) c = Err r

unfoldable pub decode : List ℕ → Decoded
decode c = decode_named (recognise c) c

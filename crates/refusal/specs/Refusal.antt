-- "Order for a command": the rules on a command's fields and its buffer's length, and which of them answers.
use Rattle.std.specs.Prelude.{ℕ, ◌*◌, not, ◌&&◌, cond, eqb, ltb}
use Rattle.answer.specs.Answer.{Answer, or_else, refused_if}
use Rattle.answer.specs.declared.Reason.TheVariants as reasons
use Rattle.segment.specs.declared.Description.{Description}
use Rattle.segment.specs.Segment.{stored_of}
use Rattle.segment.specs.Places.{range_rule}
use Rattle.command.specs.declared.Command.{Command}
use Rattle.command.specs.Tags.{long}
use Rattle.command.specs.Compares.{is_verify, compares}
use Rattle.refusal.specs.declared.Lengths.{Lengths}

-- "types 0, 1 and 3 answer 5 to every 32-byte command."
unfoldable pub long_rule : Description → Command → Answer
long_rule d c = refused_if (long c && not (eqb d.kind 2)) reasons.OperationInvalid

-- "Type 2 answers 5 to other commands with a non-zero code."
unfoldable pub other_rule : Description → Command → Answer
other_rule d c = refused_if (not (long c) && (eqb d.kind 2 && not (eqb c.code 0))) reasons.OperationInvalid

-- "Type 0 then answers 6 to a non-zero code."
unfoldable pub plain_rule : Description → Command → Answer
plain_rule d c = refused_if (eqb d.kind 0 && not (eqb c.code 0)) reasons.FieldInvalid

-- "type rules"
unfoldable pub type_rules : Description → Command → Answer
type_rules d c = or_else (long_rule d c) (or_else (other_rule d c) (plain_rule d c))

-- "protect code 110 or 111 6"
unfoldable pub code_rule : Command → Answer
code_rule c = refused_if (ltb 0b101 c.code) reasons.FieldInvalid

-- "byte-check bits 6": "VERIFY has byte-check bits 2-1 of the protect byte"; the others have none, and 0 here. Of document 02, "values
-- 10b and 11b stay at 6"
unfoldable pub check_rule : Command → Answer
check_rule c = refused_if (ltb 0b01 c.check) reasons.FieldInvalid

-- "With code 000 the buffer holds T × B bytes, otherwise T × S": of each block, and of all
abbrev pub each_of : Description → Command → ℕ
each_of d c = cond (eqb c.code 0) d.block (stored_of d)

unfoldable pub moved_of : Description → Command → ℕ
moved_of d c = c.length * each_of d c

-- "14": "transfer above 4,294,967,295 bytes"
unfoldable pub size_rule : Description → Command → Answer
size_rule d c = refused_if (ltb 4294967295 (moved_of d c)) reasons.TransferTooLarge

-- "VERIFY's buffer has 0 bytes."; with byte-check bits 01b "the buffer holds T × B bytes for code 000 and T × S otherwise, as for WRITE"
unfoldable pub buffer_of : Description → Command → ℕ
buffer_of d c = cond (is_verify c.operation && not (compares c)) 0 (moved_of d c)

-- "4"
unfoldable pub buffer_rule : Description → Command → Lengths → Answer
buffer_rule d c lengths = refused_if (not (eqb lengths.buffer (buffer_of d c))) reasons.BufferLengthWrong

-- "type rules; protect code 110 or 111 6; byte-check bits 6; address .. 7; 14; 4": the first that refuses
unfoldable pub refusal : Description → Command → Lengths → Answer
refusal d c lengths =
    or_else (type_rules d c)
    (or_else (code_rule c)
    (or_else (check_rule c) (or_else (range_rule d c.address c.length) (or_else (size_rule d c) (buffer_rule d c lengths)))))

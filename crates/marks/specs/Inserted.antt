-- "Inserted on WRITE with 000"
use Rattle.std.specs.Prelude.{ℕ, ◌*◌, ◌%◌, ◌^◌, cond, eqb}
use Rattle.segment.specs.declared.Description.{Description}
use Rattle.segment.specs.Segment.{intervals_of}
use Rattle.command.specs.declared.Command.{Command}
use Rattle.command.specs.Tags.{long, tag_of, application_of}
use Rattle.insertion.specs.declared.Marks.{Marks}

-- "application 0000h if ATO is 0, and if ATO is 1 the expected tag of a 32-byte command, else FFFFh"
unfoldable pub inserted_application : Description → Command → ℕ
inserted_application d c = cond (eqb d.ato 0) 0x0000 (cond (long c) (application_of c) 0xFFFF)

-- "reference as expected above, except type 2 with 10, 12 or 16 bytes, where it is (address of the block × n + interval in
-- the block) modulo 2^32, and type 3, where it is 0": of the transfer's first interval
unfoldable pub inserted_reference : Description → Command → ℕ
inserted_reference d c =
    cond (eqb d.kind 1) (c.address % 2 ^ 32)
    (cond (eqb d.kind 2) (cond (long c) (tag_of c) (c.address * intervals_of d % 2 ^ 32)) 0)

-- the others follow, one more each; in type 3 all are 0
unfoldable pub marks_of : Description → Command → Marks
marks_of d c = record { application = inserted_application d c; reference = inserted_reference d c; step = cond (eqb d.kind 3) 0 1 }

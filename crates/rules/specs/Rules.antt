-- What a transfer checks: "Eight protect codes choose the fields"; "A field is checked only where its value is known".
use Rattle.std.specs.Prelude.{ℕ, ◌%◌, ◌^◌, Bool, true, false, ◌&&◌, ◌||◌, cond, eqb}
use Rattle.segment.specs.declared.Description.{Description}
use Rattle.segment.specs.Segment.{intervals_of, size_of}
use Rattle.command.specs.declared.Command.{Command}
use Rattle.command.specs.Tags.{long, tag_of, application_of, mask_of}
use Rattle.interval.specs.declared.Escape.{Escape}
use Rattle.interval.specs.declared.Escape.TheVariants.{Never, Tag, Both}
use Rattle.interval.specs.declared.Rules.{Rules}
use Rattle.interval.specs.declared.Place.{Place}
use Rattle.sides.specs.declared.Side.{Side}
use Rattle.sides.specs.declared.Side.TheVariants.{Sent, Stored}
use Rattle.rules.specs.declared.Columns.{Columns}

abbrev pub columns_in : Bool → Bool → Bool → Columns
columns_in g a r = record { guard = g; application = a; reference = r }

-- | code | guard | application | reference |; codes 110 and 111 are refused before they get here
unfoldable pub columns_of : ℕ → Columns
columns_of code =
    cond (eqb code 0b000) (columns_in true true true)
    (cond (eqb code 0b001) (columns_in true true true)
    (cond (eqb code 0b010) (columns_in false true true)
    (cond (eqb code 0b011) (columns_in false false false)
    (cond (eqb code 0b100) (columns_in true false false)
    (cond (eqb code 0b101) (columns_in true true true) (columns_in false false false))))))

-- "Application: only with a 32-byte command and ATO 1"
unfoldable pub application_known : Description → Command → Bool
application_known d c = long c && eqb d.ato 1

-- "Reference: type 1 expects the low four bytes of the command's address first; type 2 expects the first tag of a 32-byte
-- command, and nothing with other commands; type 3 expects nothing."
unfoldable pub reference_known : Description → Command → Bool
reference_known d c = eqb d.kind 1 || (eqb d.kind 2 && long c)

unfoldable pub first_tag : Description → Command → ℕ
first_tag d c = cond (eqb d.kind 1) (c.address % 2 ^ 32) (tag_of c)

-- "Escape, on READ and VERIFY only: application tag FFFFh for types 1 and 2; FFFFh with reference FFFFFFFFh for type 3.": of what is
-- stored, not of what is sent
abbrev pub escape_of : Side → ℕ → Escape
escape_of Sent kind = Never
escape_of Stored kind = cond (eqb kind 3) Both Tag

-- how the intervals of a side are judged
unfoldable pub rules_of : Side → Description → Command → Rules
rules_of side d c =
    record {
      intervals = intervals_of d;
      size = size_of d;
      guard = (columns_of c.code).guard;
      application = (columns_of c.code).application && application_known d c;
      reference = (columns_of c.code).reference && reference_known d c;
      expected = application_of c;
      mask = mask_of c;
      escape = escape_of side d.kind;
    }

-- where judging starts: "the block's address and the interval's place in the transfer, from 0"
unfoldable pub start_of : Description → Command → Place
start_of d c = record { address = c.address; interval = 0; tag = first_tag d c }

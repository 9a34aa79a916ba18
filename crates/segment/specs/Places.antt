-- Where blocks and intervals lie: "The segment's bytes are N blocks end to end".
use Rattle.std.specs.Prelude.{ℕ, ◌+◌, ◌*◌, ◌-◌, ◌||◌, List, ltb, take, drop}
use Rattle.answer.specs.Answer.{Answer, refused_if}
use Rattle.answer.specs.declared.Reason.TheVariants as reasons
use Rattle.segment.specs.declared.Description.{Description}
use Rattle.segment.specs.Segment.{intervals_of, size_of, stored_of}

-- "address below W or address + T above W + N, as whole numbers, 7"
unfoldable pub range_rule : Description → ℕ → ℕ → Answer
range_rule d address count =
    refused_if (ltb address d.first || ltb (d.first + d.count) (address + count)) reasons.AddressOutOfRange

-- document 02: "7 for a place above N", a place being the number of blocks before it
unfoldable pub place_rule : Description → ℕ → Answer
place_rule d place = refused_if (ltb d.count place) reasons.AddressOutOfRange

-- where the block of an address begins in the segment, and how many bytes so many blocks have
unfoldable pub offset_of : Description → ℕ → ℕ
offset_of d address = (address - d.first) * stored_of d

unfoldable pub span_of : Description → ℕ → ℕ
span_of d count = count * stored_of d

-- the bytes of so many blocks from an address on
unfoldable pub blocks_from : Description → ℕ → ℕ → List ℕ → List ℕ
blocks_from d address count segment = take (span_of d count) (drop (offset_of d address) segment)

-- of types 1 to 3, "A block has n = 2^e intervals of B/n data bytes. For types 1 to 3 each is followed by eight bytes": the bytes
-- from block j on, and from its interval i on
abbrev pub block_at : Description → List ℕ → ℕ → List ℕ
block_at d s j = drop (j * (intervals_of d * (size_of d + 8))) s

abbrev pub interval_at : Description → List ℕ → ℕ → ℕ → List ℕ
interval_at d s j i = drop (i * (size_of d + 8)) (block_at d s j)

-- where interval i of block j begins
unfoldable pub begin_of : Description → ℕ → ℕ → ℕ
begin_of d j i = (j * intervals_of d + i) * (size_of d + 8)

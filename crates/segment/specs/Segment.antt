-- "A segment is described by type P, block length B, exponent e, first address W, count N and the bit ATO."
use Rattle.std.specs.Prelude.{ℕ, ◌+◌, ◌*◌, ◌/◌, ◌%◌, ◌^◌, ◌≤◌, ◌<◌, Bool, ◌&&◌, ◌||◌, cond, ◌≡◌, eqb, leb}
use Rattle.segment.specs.declared.Description.{Description}

-- "type P, block length B, exponent e, first address W, count N and the bit ATO", in this order
abbrev pub described : ℕ → ℕ → ℕ → ℕ → ℕ → ℕ → Description
described p b e w n ato = record { kind = p; block = b; exponent = e; first = w; count = n; ato = ato }

-- "P is 0 to 3, ATO 0 or 1. B is 8 to 4,096 and a multiple of 8. e is 0 to 3, and 0 for types 0 and 1. N is 1 to 65,536.
-- W + N is at most 2^63."
unfoldable pub is_segment : Description → Bool
is_segment d =
    leb d.kind 3
    && (leb d.ato 1
    && (leb 8 d.block
    && (leb d.block 4096
    && (eqb (d.block % 8) 0
    && (leb d.exponent 3
    && ((eqb d.exponent 0 || leb 2 d.kind)
    && (leb 1 d.count
    && (leb d.count 65536
    && leb (d.first + d.count) (2 ^ 63)))))))))

-- the same as facts
pub record IsSegment (d : Description) : Type 0 where
  pub kind : d.kind ≤ 3
  pub ato : d.ato ≤ 1
  pub least : 8 ≤ d.block
  pub most : d.block ≤ 4096
  pub eights : d.block % 8 ≡ 0
  pub exponent : d.exponent ≤ 3
  pub plain : d.kind < 2 → d.exponent ≡ 0
  pub some : 1 ≤ d.count
  pub count : d.count ≤ 65536
  pub end : d.first + d.count ≤ 2 ^ 63

-- "A block has n = 2^e intervals of B/n data bytes."
unfoldable pub intervals_of : Description → ℕ
intervals_of d = 2 ^ d.exponent

unfoldable pub size_of : Description → ℕ
size_of d = d.block / intervals_of d

-- "For types 1 to 3 each is followed by eight bytes"; "A stored block has S = B + 8n bytes; for type 0, S = B."
unfoldable pub stored_of : Description → ℕ
stored_of d = cond (eqb d.kind 0) d.block (d.block + 8 * intervals_of d)

-- "The segment's bytes are N blocks end to end, exactly N × S."
unfoldable pub length_of : Description → ℕ
length_of d = d.count * stored_of d

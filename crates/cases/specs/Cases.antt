-- "Both sides of the line": the starred cases of document 01, cases of each protect code, and cases of document 02's "Compare while
-- verifying" and "Scrubbing a few blocks at a time", in one table.
use Rattle.std.specs.Prelude.{ℕ, zero, suc, ◌-◌, List, [], ◌∷◌, ◌++◌, map, take, replicate}
use Rattle.words.specs.BigEndian.{bytes}
use Rattle.guard.specs.Guard.{guard}
use Rattle.answer.specs.Answer.{number_of, address_of, place_of}
use Rattle.answer.specs.Outcome.{Outcome}
use Rattle.segment.specs.declared.Description.{Description}
use Rattle.segment.specs.Segment.{described}
use Rattle.execute.specs.Lent.{Lent, lent}
use Rattle.execute.specs.Execute.{executed}
use Rattle.scrub.specs.declared.Scrubbed.{Scrubbed}
use Rattle.scrub.specs.Scrub.{scrubbed}
use Rattle.stripe.specs.Stripe as stripe

-- what comes of a case, in the paper's numbers, with every lent byte afterwards
pub data Result : Type 0 where
  guarded : ℕ → Result
  -- number, address, interval, then the segment and the buffer
  answered : ℕ → ℕ → ℕ → List ℕ → List ℕ → Result
  -- number, then the buffer
  made : ℕ → List ℕ → Result
  -- number, the new place, the blocks judged, how many had a fault, the address of the first
  handed : ℕ → ℕ → ℕ → ℕ → ℕ → Result

-- data and its guard
pub record Vector : Type 0 where
  pub bytes : List ℕ
  pub guarded : ℕ

-- a command on a segment, with the buffer lent to it, and what is to come of it
pub record CommandCase : Type 0 where
  pub description : Description
  pub segment : List ℕ
  pub command : List ℕ
  pub buffer : List ℕ
  pub outcome : Result

-- members, how many, and their parity
pub record ParityCase : Type 0 where
  pub description : Description
  pub count : ℕ
  pub members : List ℕ
  pub parity : List ℕ

-- a scrub of a segment from a place on, over a number of blocks, and what is to come of it
pub record ScrubCase : Type 0 where
  pub description : Description
  pub segment : List ℕ
  pub place : ℕ
  pub blocks : ℕ
  pub outcome : Result

pub data Case : Type 0 where
  guard_of : Vector → Case
  execute : CommandCase → Case
  parity : ParityCase → Case
  scrub : ScrubCase → Case

abbrev pub answer_of : Outcome Lent → Result
answer_of o = answered (number_of o.answer) (address_of o.answer) (place_of o.answer) o.left.segment o.left.buffer

abbrev pub made_in : Outcome (List ℕ) → Result
made_in o = made (number_of o.answer) o.left

abbrev pub handed_by : Scrubbed → Result
handed_by x = handed (number_of x.answer) x.next x.judged x.faults x.first

-- by the definitions
abbrev pub result : Case → Result
result (guard_of v) = guarded (guard v.bytes)
result (execute c) = answer_of (executed c.description c.command (lent c.segment c.buffer))
result (parity c) = made_in (stripe.made c.description c.count c.members (replicate 16 0))
result (scrub c) = handed_by (scrubbed c.description c.segment c.place c.blocks)

-- by the paper
abbrev pub expected : Case → Result
expected (guard_of v) = guarded v.guarded
expected (execute c) = c.outcome
expected (parity c) = made 0 c.parity
expected (scrub c) = c.outcome

-- n bytes, each one more, or one less, than the one before
unfoldable pub up : ℕ → ℕ → List ℕ
up zero b = []
up (suc n) b = b ∷ up n (suc b)

unfoldable pub down : ℕ → ℕ → List ℕ
down zero b = []
down (suc n) b = b ∷ down n (b - 1)

-- "Guards from 002"
unfoldable pub vectors : List Vector
vectors =
    record { bytes = replicate 32 0x00; guarded = 0x0000 }
    ∷ record { bytes = replicate 32 0xFF; guarded = 0xA293 }
    ∷ record { bytes = up 32 0x00; guarded = 0x0224 }
    ∷ record { bytes = replicate 2 0xFF ++ replicate 30 0x00; guarded = 0x21B8 }
    ∷ record { bytes = down 32 0xFF; guarded = 0xA0B7 }
    ∷ []

-- "call this segment M; ATO is 0": its description and its blocks
abbrev described_m : Description
described_m = described 1 8 0 7 3 0

abbrev first : List ℕ
first = bytes 16 0x0000000000000001_8BB7_0000_00000007

abbrev second : List ℕ
second = bytes 16 0x0000000000000002_9CD9_0000_00000007

abbrev third : List ℕ
third = bytes 16 0x0000000000000003_0000_FFFF_00000000

abbrev M : List ℕ
M = first ++ second ++ third

-- a command on M
abbrev on_m : ℕ → List ℕ → Result → Case
on_m c buffer r = execute (record { description = described_m; segment = M; command = bytes 10 c; buffer = buffer; outcome = r })

-- the command's bytes are: operation, protect byte (code 001 is 20h), address, group, length, control
unfoldable pub on_segments : List Case
on_segments =
    -- READ (10) "at 7, T 2, code 001: 10, address 8, interval 1"
    on_m 0x28_20_00000007_00_0002_00 (replicate 32 0) (answered 10 8 1 M (replicate 32 0))
    -- "the same with 011: 0"
    ∷ on_m 0x28_60_00000007_00_0002_00 (replicate 32 0) (answered 0 0 0 M (first ++ second))
    -- "at 9, T 1, code 001: 0"
    ∷ on_m 0x28_20_00000009_00_0001_00 (replicate 16 0) (answered 0 0 0 M third)
    -- "WRITE (10) of M's third block to 9, code 001: 8, interval 0"
    ∷ on_m 0x2A_20_00000009_00_0001_00 third (answered 8 9 0 M third)
    -- READ (10) "at 10, T 1: 7"
    ∷ on_m 0x28_00_0000000A_00_0001_00 (replicate 8 0) (answered 7 0 0 M (replicate 8 0))
    -- "Type 2, B 8, e 1, ATO 0, WRITE (32) code 000, first tag FFFFFFFFh, data zero: references FFFFFFFFh, then 00000000h."
    ∷ execute
    (record {
      description = described 2 8 1 0 1 0;
      segment = replicate 24 0xFF;
      command = bytes 32 0x7F_00_00000000_00_18_000B_00_00_0000000000000000_FFFFFFFF_0000_0000_00000001;
      buffer = replicate 8 0;
      outcome = answered 0 0 0 (bytes 24 0x00000000_0000_0000_FFFFFFFF_00000000_0000_0000_00000000) (replicate 8 0);
    })
    ∷ []

-- "Compare while verifying", on M: VERIFY (10) with byte-check bits 01b (02h in the protect byte). The block at 8 has a wrong reference
-- tag; the one at 9 has the escape, and a wrong guard
abbrev right_second : List ℕ
right_second = bytes 16 0x0000000000000002_9CD9_0000_00000008

abbrev user : ℕ → List ℕ
user = bytes 8

unfoldable pub comparing : List Case
comparing =
    -- "With 000 the stored intervals are checked as today and then user data is compared": the same, another
    on_m 0x2F_02_00000007_00_0001_00 (user 0x01) (answered 0 0 0 M (user 0x01))
    ∷ on_m 0x2F_02_00000007_00_0001_00 (user 0x03) (answered 15 7 0 M (user 0x03))
    -- "after every interval check": the wrong reference tag at 8 is named, not the difference at 7 before it
    ∷ on_m 0x2F_02_00000007_00_0002_00 (user 0x03 ++ user 0x02) (answered 10 8 1 M (user 0x03 ++ user 0x02))
    -- a block that has the escape is compared too
    ∷ on_m 0x2F_02_00000009_00_0001_00 (user 0x03) (answered 0 0 0 M (user 0x03))
    ∷ on_m 0x2F_02_00000009_00_0001_00 (user 0x83) (answered 15 9 0 M (user 0x83))
    -- "With another code the incoming intervals are checked as for WRITE", code 001: M's first block; its third, which sent has no escape
    ∷ on_m 0x2F_22_00000007_00_0001_00 first (answered 0 0 0 M first)
    ∷ on_m 0x2F_22_00000009_00_0001_00 third (answered 8 9 0 M third)
    -- "the stored ones are not, and then all S bytes of each block are compared": of the block at 8 only the reference tag differs
    ∷ on_m 0x2F_22_00000008_00_0001_00 right_second (answered 15 8 0 M right_second)
    -- code 011 checks nothing: all of M, and all but the last
    ∷ on_m 0x2F_62_00000007_00_0003_00 M (answered 0 0 0 M M)
    ∷ on_m 0x2F_62_00000007_00_0003_00 (first ++ second ++ second) (answered 15 9 0 M (first ++ second ++ second))
    -- "the buffer holds T × B bytes for code 000"; T 0; "values 10b and 11b stay at 6", before the address
    ∷ on_m 0x2F_02_00000007_00_0001_00 [] (answered 4 0 0 M [])
    ∷ on_m 0x2F_02_0000000A_00_0000_00 [] (answered 0 0 0 M [])
    ∷ on_m 0x2F_04_00000007_00_0001_00 [] (answered 6 0 0 M [])
    ∷ on_m 0x2F_06_00000007_00_0001_00 [] (answered 6 0 0 M [])
    ∷ on_m 0x2F_04_00000006_00_0001_00 [] (answered 6 0 0 M [])
    ∷ on_m 0x2F_02_00000006_00_0001_00 [] (answered 7 0 0 M [])
    -- bits 00b are as before
    ∷ on_m 0x2F_00_00000007_00_0001_00 (user 0x01) (answered 4 0 0 M (user 0x01))
    ∷ on_m 0x2F_20_00000007_00_0002_00 [] (answered 10 8 1 M [])
    -- type 0, B 8, W 0, N 2: "In type 0 only the data is compared."
    ∷ execute
    (record {
      description = described 0 8 0 0 2 0;
      segment = user 0x01 ++ user 0x02;
      command = bytes 10 0x2F_02_00000000_00_0002_00;
      buffer = user 0x01 ++ user 0x03;
      outcome = answered 15 1 0 (user 0x01 ++ user 0x02) (user 0x01 ++ user 0x03);
    })
    -- type 2, B 8, e 1, VERIFY (32), code 001, first tag FFFFFFFFh: what is sent is right, and differs in its second interval; the block is
    -- named, and place 0
    ∷ execute
    (record {
      description = described 2 8 1 0 1 0;
      segment = bytes 24 0x00000001_8BB7_0000_FFFFFFFF_00000002_9CD9_0000_00000000;
      command = bytes 32 0x7F_00_00000000_00_18_000A_22_00_0000000000000000_FFFFFFFF_0000_0000_00000001;
      buffer = bytes 24 0x00000001_8BB7_0000_FFFFFFFF_00000003_176E_0000_00000000;
      outcome =
          answered 15 0 0 (bytes 24 0x00000001_8BB7_0000_FFFFFFFF_00000002_9CD9_0000_00000000) (bytes 24 0x00000001_8BB7_0000_FFFFFFFF_00000003_176E_0000_00000000);
    })
    ∷ []

-- "Eight protect codes choose the fields": each code, on M, and the application tag in type 2 with ATO 1, B 8, one block at 0
abbrev verifying : ℕ → ℕ → Case
verifying c n =
    execute
    (record {
      description = described 2 8 0 0 1 1;
      segment = bytes 16 0x0000000000000001_8BB7_1234_00000000;
      command = bytes 32 c;
      buffer = [];
      outcome = answered n 0 0 (bytes 16 0x0000000000000001_8BB7_1234_00000000) [];
    })

unfoldable pub each_code : List Case
each_code =
    -- WRITE (10) to 9 with 000: the data alone is sent, and the fields are inserted
    on_m 0x2A_00_00000009_00_0001_00 (user 0x03) (answered 0 0 0 (first ++ second ++ bytes 16 0x0000000000000003_176E_0000_00000009) (user 0x03))
    -- M's third block, whose guard and reference tag are wrong, to 9 with 010 to 111; 001 stands above
    ∷ on_m 0x2A_40_00000009_00_0001_00 third (answered 10 9 0 M third)
    ∷ on_m 0x2A_60_00000009_00_0001_00 third (answered 0 0 0 M third)
    ∷ on_m 0x2A_80_00000009_00_0001_00 third (answered 8 9 0 M third)
    ∷ on_m 0x2A_A0_00000009_00_0001_00 third (answered 8 9 0 M third)
    ∷ on_m 0x2A_C0_00000009_00_0001_00 third (answered 6 0 0 M third)
    ∷ on_m 0x2A_E0_00000009_00_0001_00 third (answered 6 0 0 M third)
    -- its second block, whose reference tag alone is wrong there
    ∷ on_m 0x2A_20_00000009_00_0001_00 second (answered 10 9 0 M second)
    ∷ on_m 0x2A_40_00000009_00_0001_00 second (answered 10 9 0 M second)
    ∷ on_m 0x2A_60_00000009_00_0001_00 second (answered 0 0 0 (first ++ second ++ second) second)
    ∷ on_m 0x2A_80_00000009_00_0001_00 second (answered 0 0 0 (first ++ second ++ second) second)
    ∷ on_m 0x2A_A0_00000009_00_0001_00 second (answered 10 9 0 M second)
    ∷ on_m 0x2A_C0_00000009_00_0001_00 second (answered 6 0 0 M second)
    ∷ on_m 0x2A_E0_00000009_00_0001_00 second (answered 6 0 0 M second)
    -- VERIFY (32) of a block whose application tag is not the one expected, with 000 to 111
    ∷ verifying 0x7F_00_00000000_00_18_000A_00_00_0000000000000000_00000000_1235_FFFF_00000001 9
    ∷ verifying 0x7F_00_00000000_00_18_000A_20_00_0000000000000000_00000000_1235_FFFF_00000001 9
    ∷ verifying 0x7F_00_00000000_00_18_000A_40_00_0000000000000000_00000000_1235_FFFF_00000001 9
    ∷ verifying 0x7F_00_00000000_00_18_000A_60_00_0000000000000000_00000000_1235_FFFF_00000001 0
    ∷ verifying 0x7F_00_00000000_00_18_000A_80_00_0000000000000000_00000000_1235_FFFF_00000001 0
    ∷ verifying 0x7F_00_00000000_00_18_000A_A0_00_0000000000000000_00000000_1235_FFFF_00000001 9
    ∷ verifying 0x7F_00_00000000_00_18_000A_C0_00_0000000000000000_00000000_1235_FFFF_00000001 6
    ∷ verifying 0x7F_00_00000000_00_18_000A_E0_00_0000000000000000_00000000_1235_FFFF_00000001 6
    ∷ []

-- "Members M's first block and 0000000000000002 9CD9 0000 00000007: parity 0000000000000003 176E 0000 00000000."
unfoldable pub parity_case : ParityCase
parity_case =
    record {
      description = described 1 8 0 7 1 0;
      count = 2;
      members = first ++ bytes 16 0x0000000000000002_9CD9_0000_00000007;
      parity = bytes 16 0x0000000000000003_176E_0000_00000000;
    }

-- "Scrubbing a few blocks at a time"
abbrev scrub_of : Description → List ℕ → ℕ → ℕ → Result → Case
scrub_of d s place blocks r = scrub (record { description = d; segment = s; place = place; blocks = blocks; outcome = r })

unfoldable pub scrubbing : List Case
scrubbing =
    -- all of M: its second block, at 8, has a wrong reference tag; its third, with a wrong guard, has the escape
    scrub_of described_m M 0 3 (handed 0 3 3 1 8)
    -- the same block by block, "each starting where the last stopped"
    ∷ scrub_of described_m M 0 1 (handed 0 1 1 0 0)
    ∷ scrub_of described_m M 1 1 (handed 0 2 1 1 8)
    ∷ scrub_of described_m M 2 1 (handed 0 3 1 0 0)
    -- "the smaller of that number and the blocks left"
    ∷ scrub_of described_m M 0 2 (handed 0 2 2 1 8)
    ∷ scrub_of described_m M 1 3 (handed 0 3 2 1 8)
    ∷ scrub_of described_m M 2 0xFFFFFFFFFFFFFFFF (handed 0 3 1 0 0)
    -- "zero is allowed and moves nothing"; place N covers nothing
    ∷ scrub_of described_m M 1 0 (handed 0 1 0 0 0)
    ∷ scrub_of described_m M 3 3 (handed 0 3 0 0 0)
    -- "7 for a place above N", with any number
    ∷ scrub_of described_m M 4 0 (handed 7 4 0 0 0)
    ∷ scrub_of described_m M 0xFFFFFFFFFFFFFFFF 1 (handed 7 0xFFFFFFFFFFFFFFFF 0 0 0)
    -- "1, then 2, then 7": ATO 2, a byte too few, and a place above N; the last two; the first alone
    ∷ scrub_of (described 1 8 0 7 3 2) (take 47 M) 4 1 (handed 1 4 0 0 0)
    ∷ scrub_of described_m (take 47 M) 4 1 (handed 2 4 0 0 0)
    ∷ scrub_of (described 1 8 0 7 3 2) M 1 1 (handed 1 1 0 0 0)
    -- the second block twice: the first of two faults is named
    ∷ scrub_of described_m (first ++ second ++ second) 0 3 (handed 0 3 3 2 8)
    -- W 0: the first block has a fault, and its address is 0
    ∷ scrub_of (described 1 8 0 0 2 0) (first ++ second) 0 2 (handed 0 2 2 2 0)
    -- type 2, B 8, e 1: both guards of the first block are wrong, and it counts once; the second block has a wrong guard beside the escape
    -- of its other interval
    ∷ scrub_of (described 2 8 1 5 2 1) (bytes 24 0x00000001_8BB6_0000_FFFFFFFF_00000002_9CD8_0000_00000000 ++ bytes 24 0x00000001_8BB6_0000_00000000_00000002_9CD8_FFFF_00000000) 0 2 (handed 0 2 2 1 5)
    -- in type 2 any tags, in type 1 any application tag, with ATO 1 too: only what is known is judged
    ∷ scrub_of (described 2 8 1 5 1 1) (bytes 24 0x00000001_8BB7_1234_FFFFFFFF_00000002_9CD9_0000_00000007) 0 1 (handed 0 1 1 0 0)
    ∷ scrub_of (described 1 8 0 7 1 1) (bytes 16 0x0000000000000001_8BB7_1234_00000007) 0 1 (handed 0 1 1 0 0)
    -- type 3: FFFFh alone is not the escape
    ∷ scrub_of (described 3 8 0 5 2 0) (bytes 16 0x0000000000000001_8BB6_FFFF_FFFFFFFF ++ bytes 16 0x0000000000000001_8BB6_FFFF_FFFFFFFE) 0 2 (handed 0 2 2 1 6)
    -- type 0 has no faults, and its blocks count as judged
    ∷ scrub_of (described 0 8 0 5 2 0) (user 0x01 ++ user 0x02) 0 9 (handed 0 2 2 0 0)
    ∷ []

unfoldable pub cases : List Case
cases = map guard_of vectors ++ on_segments ++ comparing ++ scrubbing ++ (parity parity_case ∷ [])

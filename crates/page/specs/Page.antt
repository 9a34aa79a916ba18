-- The listing of a segment: "Unless refused, header and last line stand".
use Rattle.std.specs.Prelude.{ℕ, List, [], ◌∷◌, ◌++◌, length}
use Rattle.segment.specs.declared.Description.{Description}
use Rattle.lines.specs.declared.Line.{Line}
use Rattle.sheet.specs.Sheet.{faulty, skips, count_of, lines_text}
use Rattle.contents.specs.Contents.{lines_of}
use Rattle.closing.specs.Closing.{numbers_text}

-- `lba interval guard app ref state`
unfoldable pub header_text : List ℕ
header_text =
    0x6C ∷ 0x62 ∷ 0x61 ∷ 0x20 ∷ 0x69 ∷ 0x6E ∷ 0x74 ∷ 0x65 ∷ 0x72 ∷ 0x76 ∷ 0x61 ∷ 0x6C ∷ 0x20 ∷ 0x67 ∷ 0x75 ∷ 0x61 ∷ 0x72 ∷ 0x64
    ∷ 0x20 ∷ 0x61 ∷ 0x70 ∷ 0x70 ∷ 0x20 ∷ 0x72 ∷ 0x65 ∷ 0x66 ∷ 0x20 ∷ 0x73 ∷ 0x74 ∷ 0x61 ∷ 0x74 ∷ 0x65 ∷ 0x0A ∷ []

unfoldable pub total_text : List Line → List ℕ
total_text ls = numbers_text (length ls) (count_of faulty ls) (count_of skips ls)

-- "Unless refused, header and last line stand"
unfoldable pub listed_text : Description → List ℕ → List ℕ
listed_text d s = header_text ++ (lines_text (lines_of d s) ++ total_text (lines_of d s))

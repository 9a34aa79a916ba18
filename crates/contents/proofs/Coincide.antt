-- "any two permitted answers coincide": of each public function, over its contract as it stands. Whatever the arguments a are, two
-- answers x and y that the contract permits are one, and so is what is lent to be written, as the calls leave it in s and in t: of a
-- pen, where it stands, the bytes of its buffer, and which buffer that is.
-- Assumes nothing.
use mathlib.Core.Path.{◌≡◌}
use Rattle.sheet.proofs.SheetLaws.{same_lines}
use Rattle.contents.proofs.print_segment.Reads as print-segment-reads

pub print_segment : (κs : _) (a : _) (x y : _) (s t : _) → print-segment-reads.Post κs a x s → print-segment-reads.Post κs a y t
    → (s.1.1.0.now.at ≡ t.1.1.0.now.at) × (s.1.1.0.now.out.now ≡ t.1.1.0.now.out.now)
    × (s.1.1.0.now.out.ghost_name ≡ t.1.1.0.now.out.ghost_name) × (s.1.1.1.0.now ≡ t.1.1.1.0.now)
print_segment κs a x y s t p q = same_lines p q

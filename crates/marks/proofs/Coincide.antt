-- "any two permitted answers coincide": of each public function, over its contract as it stands. Whatever the arguments a are, two
-- answers x and y that the contract permits are one, and so is each byte lent to be written, as the calls leave it in s and in t.
-- Assumes nothing.
use mathlib.Core.Path.{◌≡◌, sym, ◌∙◌}
use Rattle.marks.proofs.marks.Reads as marks-reads

pub marks : (κs : _) (a : _) (x y : _) (s t : _) → marks-reads.Post κs a x s → marks-reads.Post κs a y t → x ≡ y
marks κs a x y s t p q = p ∙ sym q

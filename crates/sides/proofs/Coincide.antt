-- "any two permitted answers coincide": of each public function, over its contract as it stands. Whatever the arguments a are, two
-- answers x and y that the contract permits are one, and so is each byte lent to be written, as the calls leave it in s and in t.
-- Assumes nothing.
use mathlib.Core.Path.{◌≡◌, sym, ◌∙◌}
use Rattle.sides.proofs.checked_on.Reads as checked-on-reads

pub checked_on : (κs : _) (a : _) (x y : _) (s t : _) → checked-on-reads.Post κs a x s → checked-on-reads.Post κs a y t → x ≡ y
checked_on κs a x y s t p q = p ∙ sym q

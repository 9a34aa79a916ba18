-- "any two permitted answers coincide": of each public function, over its contract as it stands. Whatever the arguments a are, two
-- answers x and y that the contract permits are one, and so is each byte lent to be written, as the calls leave it in s and in t.
-- Assumes nothing.
use mathlib.Core.Path.{◌≡◌, sym, ◌∙◌}
use Rattle.codes.proofs.columns_of.Reads as columns-of-reads

pub columns_of : (κs : _) (a : _) (x y : _) (s t : _) → columns-of-reads.Post κs a x s → columns-of-reads.Post κs a y t → x ≡ y
columns_of κs a x y s t p q = p ∙ sym q

-- "any two permitted answers coincide": of each public function, over its contract as it stands. Whatever the arguments a are, two
-- answers x and y that the contract permits are one, and so is each byte lent to be written, as the calls leave it in s and in t.
-- Assumes nothing.
use mathlib.Core.Path.{◌≡◌, sym, ◌∙◌}
use Rattle.format.proofs.choice_of.Reads as choice-of-reads
use Rattle.format.proofs.kind.Reads as kind-reads

pub choice_of : (κs : _) (a : _) (x y : _) (s t : _) → choice-of-reads.Post κs a x s → choice-of-reads.Post κs a y t → x ≡ y
choice_of κs a x y s t p q = p ∙ sym q

pub kind : (κs : _) (a : _) (x y : _) (s t : _) → kind-reads.Post κs a x s → kind-reads.Post κs a y t → x ≡ y
kind κs a x y s t p q = p ∙ sym q

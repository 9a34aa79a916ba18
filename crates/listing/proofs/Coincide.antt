-- "any two permitted answers coincide": of each public function, over its contract as it stands. Whatever the arguments a are, two
-- answers x and y that the contract permits are one, and so is each byte lent to be written, as the calls leave it in s and in t.
-- Assumes nothing.
use mathlib.Core.Path.{◌≡◌, sym, ◌∙◌}
use Rattle.listing.proofs.list.Reads as list-reads

pub list : (κs : _) (a : _) (x y : _) (s t : _) → list-reads.Post κs a x s → list-reads.Post κs a y t → (x ≡ y) × (s.1.0.now ≡ t.1.0.now)
list κs a x y s t p q = (p.count ∙ sym q.count, p.text ∙ sym q.text)

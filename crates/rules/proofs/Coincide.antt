-- "any two permitted answers coincide": of each public function, over its contract as it stands. Whatever the arguments a are, two
-- answers x and y that the contract permits are one, and so is each byte lent to be written, as the calls leave it in s and in t.
-- Assumes nothing.
use mathlib.Core.Path.{◌≡◌, sym, ◌∙◌}
use Rattle.rules.proofs.rules.Reads as rules-reads
use Rattle.rules.proofs.start.Reads as start-reads

pub rules : (κs : _) (a : _) (x y : _) (s t : _) → rules-reads.Post κs a x s → rules-reads.Post κs a y t → x ≡ y
rules κs a x y s t p q = p ∙ sym q

pub start : (κs : _) (a : _) (x y : _) (s t : _) → start-reads.Post κs a x s → start-reads.Post κs a y t → x ≡ y
start κs a x y s t p q = p ∙ sym q

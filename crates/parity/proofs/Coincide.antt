-- "any two permitted answers coincide": of each public function, over its contract as it stands. Whatever the arguments a are, two
-- answers x and y that the contract permits are one, and so is each byte lent to be written, as the calls leave it in s and in t.
-- Assumes nothing.
use mathlib.Core.Path.{◌≡◌, sym, ◌∙◌}
use Rattle.parity.proofs.xor_two.Reads as xor-two-reads
use Rattle.parity.proofs.join.Reads as join-reads
use Rattle.parity.proofs.rebuild.Reads as rebuild-reads

pub xor_two : (κs : _) (a : _) (x y : _) (s t : _) → xor-two-reads.Post κs a x s → xor-two-reads.Post κs a y t → s.0.now ≡ t.0.now
xor_two κs a x y s t p q = p ∙ sym q

pub join : (κs : _) (a : _) (x y : _) (s t : _) → join-reads.Post κs a x s → join-reads.Post κs a y t → s.0.now ≡ t.0.now
join κs a x y s t p q = p ∙ sym q

pub rebuild : (κs : _) (a : _) (x y : _) (s t : _) → rebuild-reads.Post κs a x s → rebuild-reads.Post κs a y t → s.0.now ≡ t.0.now
rebuild κs a x y s t p q = p ∙ sym q

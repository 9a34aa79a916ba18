-- "any two permitted answers coincide": of each public function, over its contract as it stands. Whatever the arguments a are, two
-- answers x and y that the contract permits are one, and so is each byte lent to be written, as the calls leave it in s and in t.
-- Assumes nothing.
use mathlib.Core.Path.{◌≡◌, sym, ◌∙◌}
use Rattle.answer.proofs.number.Reads as number-reads
use Rattle.answer.proofs.address.Reads as address-reads
use Rattle.answer.proofs.place.Reads as place-reads
use Rattle.answer.proofs.refused_if.Reads as refused-if-reads
use Rattle.answer.proofs.sense_numbered.Reads as sense-numbered-reads

pub number : (κs : _) (a : _) (x y : _) (s t : _) → number-reads.Post κs a x s → number-reads.Post κs a y t → x ≡ y
number κs a x y s t p q = p ∙ sym q

pub address : (κs : _) (a : _) (x y : _) (s t : _) → address-reads.Post κs a x s → address-reads.Post κs a y t → x ≡ y
address κs a x y s t p q = p ∙ sym q

pub place : (κs : _) (a : _) (x y : _) (s t : _) → place-reads.Post κs a x s → place-reads.Post κs a y t → x ≡ y
place κs a x y s t p q = p ∙ sym q

pub refused_if : (κs : _) (a : _) (x y : _) (s t : _) → refused-if-reads.Post κs a x s → refused-if-reads.Post κs a y t → x ≡ y
refused_if κs a x y s t p q = p ∙ sym q

pub sense_numbered : (κs : _) (a : _) (x y : _) (s t : _) → sense-numbered-reads.Post κs a x s → sense-numbered-reads.Post κs a y t → x ≡ y
sense_numbered κs a x y s t p q = p ∙ sym q

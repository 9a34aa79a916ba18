-- "any two permitted answers coincide": of each public function, over its contract as it stands. Whatever the arguments a are, two
-- answers x and y that the contract permits are one, and so is each byte lent to be written, as the calls leave it in s and in t.
-- Assumes nothing.
use mathlib.Core.Path.{◌≡◌, sym, ◌∙◌}
use Rattle.field.proofs.field_of.Reads as field-of-reads
use Rattle.field.proofs.stored_guard.Reads as stored-guard-reads
use Rattle.field.proofs.stored_application.Reads as stored-application-reads
use Rattle.field.proofs.stored_reference.Reads as stored-reference-reads
use Rattle.field.proofs.write.Reads as write-reads

pub field_of : (κs : _) (a : _) (x y : _) (s t : _) → field-of-reads.Post κs a x s → field-of-reads.Post κs a y t → x.now ≡ y.now
field_of κs a x y s t p q = p ∙ sym q

pub stored_guard : (κs : _) (a : _) (x y : _) (s t : _) → stored-guard-reads.Post κs a x s → stored-guard-reads.Post κs a y t → x ≡ y
stored_guard κs a x y s t p q = p ∙ sym q

pub stored_application : (κs : _) (a : _) (x y : _) (s t : _) → stored-application-reads.Post κs a x s → stored-application-reads.Post κs a y t → x ≡ y
stored_application κs a x y s t p q = p ∙ sym q

pub stored_reference : (κs : _) (a : _) (x y : _) (s t : _) → stored-reference-reads.Post κs a x s → stored-reference-reads.Post κs a y t → x ≡ y
stored_reference κs a x y s t p q = p ∙ sym q

pub write : (κs : _) (a : _) (x y : _) (s t : _) → write-reads.Post κs a x s → write-reads.Post κs a y t → s.0.now ≡ t.0.now
write κs a x y s t p q = p ∙ sym q

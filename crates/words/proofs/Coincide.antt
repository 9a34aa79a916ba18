-- "any two permitted answers coincide": of each public function, over its contract as it stands. Whatever the arguments a are, two
-- answers x and y that the contract permits are one, and so is each byte lent to be written, as the calls leave it in s and in t.
-- Assumes nothing.
use mathlib.Core.Path.{◌≡◌, sym, ◌∙◌}
use Rattle.words.proofs.read_at.Reads as read-at-reads
use Rattle.words.proofs.read2.Reads as read2-reads
use Rattle.words.proofs.read4.Reads as read4-reads
use Rattle.words.proofs.write.Reads as write-reads
use Rattle.words.proofs.write2.Reads as write2-reads
use Rattle.words.proofs.copy.Reads as copy-reads
use Rattle.words.proofs.xor_into.Reads as xor-into-reads
use Rattle.words.proofs.fill_with.Reads as fill-with-reads

pub read_at : (κs : _) (a : _) (x y : _) (s t : _) → read-at-reads.Post κs a x s → read-at-reads.Post κs a y t → x ≡ y
read_at κs a x y s t p q = p ∙ sym q

pub read2 : (κs : _) (a : _) (x y : _) (s t : _) → read2-reads.Post κs a x s → read2-reads.Post κs a y t → x ≡ y
read2 κs a x y s t p q = p ∙ sym q

pub read4 : (κs : _) (a : _) (x y : _) (s t : _) → read4-reads.Post κs a x s → read4-reads.Post κs a y t → x ≡ y
read4 κs a x y s t p q = p ∙ sym q

pub write : (κs : _) (a : _) (x y : _) (s t : _) → write-reads.Post κs a x s → write-reads.Post κs a y t → s.0.now ≡ t.0.now
write κs a x y s t p q = p ∙ sym q

pub write2 : (κs : _) (a : _) (x y : _) (s t : _) → write2-reads.Post κs a x s → write2-reads.Post κs a y t → s.0.now ≡ t.0.now
write2 κs a x y s t p q = p ∙ sym q

pub copy : (κs : _) (a : _) (x y : _) (s t : _) → copy-reads.Post κs a x s → copy-reads.Post κs a y t → s.0.now ≡ t.0.now
copy κs a x y s t p q = p ∙ sym q

pub xor_into : (κs : _) (a : _) (x y : _) (s t : _) → xor-into-reads.Post κs a x s → xor-into-reads.Post κs a y t → s.0.now ≡ t.0.now
xor_into κs a x y s t p q = p ∙ sym q

pub fill_with : (κs : _) (a : _) (x y : _) (s t : _) → fill-with-reads.Post κs a x s → fill-with-reads.Post κs a y t → s.0.now ≡ t.0.now
fill_with κs a x y s t p q = p ∙ sym q

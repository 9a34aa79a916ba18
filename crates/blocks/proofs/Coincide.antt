-- "any two permitted answers coincide": of each public function, over its contract as it stands. Whatever the arguments a are, two
-- answers x and y that the contract permits are one, and so is each byte lent to be written, as the calls leave it in s and in t.
-- Assumes nothing.
use mathlib.Core.Path.{◌≡◌, sym, ◌∙◌}
use Rattle.blocks.proofs.take_user_data.Reads as take-user-data-reads
use Rattle.blocks.proofs.store_blocks.Reads as store-blocks-reads

pub take_user_data : (κs : _) (a : _) (x y : _) (s t : _) → take-user-data-reads.Post κs a x s → take-user-data-reads.Post κs a y t → s.0.now ≡ t.0.now
take_user_data κs a x y s t p q = p ∙ sym q

pub store_blocks : (κs : _) (a : _) (x y : _) (s t : _) → store-blocks-reads.Post κs a x s → store-blocks-reads.Post κs a y t → s.0.now ≡ t.0.now
store_blocks κs a x y s t p q = p ∙ sym q

-- "any two permitted answers coincide": of each public function, over its contract as it stands. Whatever the arguments a are, two
-- answers x and y that the contract permits are one, and so is each byte lent to be written, as the calls leave it in s and in t.
-- Assumes nothing.
use Rattle.std.proofs.Common.{◌≡◌, sym, ◌∙◌}
use Rattle.insertion.proofs.insert_block.Reads as insert-block-reads
use Rattle.insertion.proofs.insert_blocks.Reads as insert-blocks-reads

pub insert_block : (κs : _) (a : _) (x y : _) (s t : _) → insert-block-reads.Post κs a x s → insert-block-reads.Post κs a y t → s.1.0.now ≡ t.1.0.now
insert_block κs a x y s t p q = p ∙ sym q

pub insert_blocks : (κs : _) (a : _) (x y : _) (s t : _) → insert-blocks-reads.Post κs a x s → insert-blocks-reads.Post κs a y t → s.1.0.now ≡ t.1.0.now
insert_blocks κs a x y s t p q = p ∙ sym q

-- "any two permitted answers coincide": of each public function, over its contract as it stands. Whatever the arguments a are, two
-- answers x and y that the contract permits are one, and so is each byte lent to be written, as the calls leave it in s and in t.
-- Assumes nothing.
use mathlib.Core.Path.{◌≡◌, sym, ◌∙◌}
use Rattle.transfer.proofs.Transfer.judge.Reads as judge-of-transfer-reads
use Rattle.transfer.proofs.Transfer.verdict.Reads as verdict-of-transfer-reads
use Rattle.transfer.proofs.Transfer.hand_out.Reads as hand-out-of-transfer-reads
use Rattle.transfer.proofs.Transfer.store.Reads as store-of-transfer-reads

pub transfer_judge : (κs : _) (a : _) (x y : _) (s t : _) → judge-of-transfer-reads.Post κs a x s → judge-of-transfer-reads.Post κs a y t → x ≡ y
transfer_judge κs a x y s t p q = p ∙ sym q

pub transfer_verdict : (κs : _) (a : _) (x y : _) (s t : _) → verdict-of-transfer-reads.Post κs a x s → verdict-of-transfer-reads.Post κs a y t → x ≡ y
transfer_verdict κs a x y s t p q = p ∙ sym q

pub transfer_hand_out : (κs : _) (a : _) (x y : _) (s t : _) → hand-out-of-transfer-reads.Post κs a x s → hand-out-of-transfer-reads.Post κs a y t → s.1.1.0.now ≡ t.1.1.0.now
transfer_hand_out κs a x y s t p q = p ∙ sym q

pub transfer_store : (κs : _) (a : _) (x y : _) (s t : _) → store-of-transfer-reads.Post κs a x s → store-of-transfer-reads.Post κs a y t → s.1.1.0.now ≡ t.1.1.0.now
transfer_store κs a x y s t p q = p ∙ sym q

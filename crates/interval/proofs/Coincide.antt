-- "any two permitted answers coincide": of each public function, over its contract as it stands. Whatever the arguments a are, two
-- answers x and y that the contract permits are one, and so is each byte lent to be written, as the calls leave it in s and in t.
-- Assumes nothing.
use mathlib.Core.Path.{◌≡◌, sym, ◌∙◌}
use Rattle.interval.proofs.escapes.Reads as escapes-reads
use Rattle.interval.proofs.any_escapes.Reads as any-escapes-reads
use Rattle.interval.proofs.reference_wrong.Reads as reference-wrong-reads
use Rattle.interval.proofs.judge_pieces.Reads as judge-pieces-reads

pub escapes : (κs : _) (a : _) (x y : _) (s t : _) → escapes-reads.Post κs a x s → escapes-reads.Post κs a y t → x ≡ y
escapes κs a x y s t p q = p ∙ sym q

pub any_escapes : (κs : _) (a : _) (x y : _) (s t : _) → any-escapes-reads.Post κs a x s → any-escapes-reads.Post κs a y t → x ≡ y
any_escapes κs a x y s t p q = p ∙ sym q

pub reference_wrong : (κs : _) (a : _) (x y : _) (s t : _) → reference-wrong-reads.Post κs a x s → reference-wrong-reads.Post κs a y t → x ≡ y
reference_wrong κs a x y s t p q = p ∙ sym q

pub judge_pieces : (κs : _) (a : _) (x y : _) (s t : _) → judge-pieces-reads.Post κs a x s → judge-pieces-reads.Post κs a y t → x ≡ y
judge_pieces κs a x y s t p q = p ∙ sym q

-- "any two permitted answers coincide": of each public function, over its contract as it stands. Whatever the arguments a are, two
-- answers x and y that the contract permits are one, and so is each byte lent to be written, as the calls leave it in s and in t.
-- Assumes nothing.
use Rattle.std.proofs.Common.{◌≡◌, sym, ◌∙◌}
use Rattle.judge.proofs.next_interval.Reads as next-interval-reads
use Rattle.judge.proofs.next_block.Reads as next-block-reads
use Rattle.judge.proofs.judge_intervals.Reads as judge-intervals-reads
use Rattle.judge.proofs.judge_block.Reads as judge-block-reads
use Rattle.judge.proofs.judge_blocks.Reads as judge-blocks-reads

pub next_interval : (κs : _) (a : _) (x y : _) (s t : _) → next-interval-reads.Post κs a x s → next-interval-reads.Post κs a y t → x ≡ y
next_interval κs a x y s t p q = p ∙ sym q

pub next_block : (κs : _) (a : _) (x y : _) (s t : _) → next-block-reads.Post κs a x s → next-block-reads.Post κs a y t → x ≡ y
next_block κs a x y s t p q = p ∙ sym q

pub judge_intervals : (κs : _) (a : _) (x y : _) (s t : _) → judge-intervals-reads.Post κs a x s → judge-intervals-reads.Post κs a y t → x ≡ y
judge_intervals κs a x y s t p q = p ∙ sym q

pub judge_block : (κs : _) (a : _) (x y : _) (s t : _) → judge-block-reads.Post κs a x s → judge-block-reads.Post κs a y t → x ≡ y
judge_block κs a x y s t p q = p ∙ sym q

pub judge_blocks : (κs : _) (a : _) (x y : _) (s t : _) → judge-blocks-reads.Post κs a x s → judge-blocks-reads.Post κs a y t → x ≡ y
judge_blocks κs a x y s t p q = p ∙ sym q

-- "any two permitted answers coincide": of each public function, over its contract as it stands. Whatever the arguments a are, two
-- answers x and y that the contract permits are one, and so is what is lent to be written, as the calls leave it in s and in t: of a
-- pen, where it stands, the bytes of its buffer, and which buffer that is.
-- Assumes nothing.
use mathlib.Core.Path.{◌≡◌, sym, ◌∙◌}
use Rattle.text.proofs.decimal_then.Reads as decimal-then-reads
use Rattle.text.proofs.hexadecimal_then.Reads as hexadecimal-then-reads
use Rattle.text.proofs.labelled.Reads as labelled-reads

pub decimal_then : (κs : _) (a : _) (x y : _) (s t : _) → decimal-then-reads.Post κs a x s → decimal-then-reads.Post κs a y t
    → (s.0.now.at ≡ t.0.now.at) × (s.0.now.out.now ≡ t.0.now.out.now) × (s.0.now.out.ghost_name ≡ t.0.now.out.ghost_name)
decimal_then κs a x y s t p q = (p.written.end ∙ sym q.written.end, p.written.now ∙ sym q.written.now, p.same_buffer ∙ sym q.same_buffer)

pub hexadecimal_then : (κs : _) (a : _) (x y : _) (s t : _) → hexadecimal-then-reads.Post κs a x s → hexadecimal-then-reads.Post κs a y t
    → (s.0.now.at ≡ t.0.now.at) × (s.0.now.out.now ≡ t.0.now.out.now) × (s.0.now.out.ghost_name ≡ t.0.now.out.ghost_name)
hexadecimal_then κs a x y s t p q = (p.written.end ∙ sym q.written.end, p.written.now ∙ sym q.written.now, p.same_buffer ∙ sym q.same_buffer)

pub labelled : (κs : _) (a : _) (x y : _) (s t : _) → labelled-reads.Post κs a x s → labelled-reads.Post κs a y t
    → (s.0.now.at ≡ t.0.now.at) × (s.0.now.out.now ≡ t.0.now.out.now) × (s.0.now.out.ghost_name ≡ t.0.now.out.ghost_name)
labelled κs a x y s t p q = (p.written.end ∙ sym q.written.end, p.written.now ∙ sym q.written.now, p.same_buffer ∙ sym q.same_buffer)

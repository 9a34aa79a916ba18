-- "any two permitted answers coincide": of each public function, over its contract as it stands. Whatever the arguments a are, two
-- answers x and y that the contract permits are one, and so is what is lent to be written, as the calls leave it in s and in t: of a
-- pen, where it stands, the bytes of its buffer, and which buffer that is.
-- Assumes nothing.
use mathlib.Core.Path.{◌≡◌, sym, ◌∙◌}
use Rattle.digits.proofs.hexadecimal.Reads as hexadecimal_reads
use Rattle.digits.proofs.decimal.Reads as decimal_reads

pub hexadecimal : (κs : _) (a : _) (x y : _) (s t : _) → hexadecimal_reads.Post κs a x s → hexadecimal_reads.Post κs a y t
    → (s.0.now.at ≡ t.0.now.at) × (s.0.now.out.now ≡ t.0.now.out.now) × (s.0.now.out.ghost_name ≡ t.0.now.out.ghost_name)
hexadecimal κs a x y s t p q = (p.written.end ∙ sym q.written.end, p.written.now ∙ sym q.written.now, p.same_buffer ∙ sym q.same_buffer)

pub decimal : (κs : _) (a : _) (x y : _) (s t : _) → decimal_reads.Post κs a x s → decimal_reads.Post κs a y t
    → (s.0.now.at ≡ t.0.now.at) × (s.0.now.out.now ≡ t.0.now.out.now) × (s.0.now.out.ghost_name ≡ t.0.now.out.ghost_name)
decimal κs a x y s t p q = (p.written.end ∙ sym q.written.end, p.written.now ∙ sym q.written.now, p.same_buffer ∙ sym q.same_buffer)

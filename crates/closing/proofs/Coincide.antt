-- "any two permitted answers coincide": of each public function, over its contract as it stands. Whatever the arguments a are, two
-- answers x and y that the contract permits are one, and so is what is lent to be written, as the calls leave it in s and in t: of a
-- pen, where it stands, the bytes of its buffer, and which buffer that is.
-- Assumes nothing.
use mathlib.Core.Path.{◌≡◌, sym, ◌∙◌}
use Rattle.closing.proofs.print_refused.Reads as print-refused-reads
use Rattle.closing.proofs.print_total.Reads as print-total-reads

pub print_refused : (κs : _) (a : _) (x y : _) (s t : _) → print-refused-reads.Post κs a x s → print-refused-reads.Post κs a y t → (x ≡ y) × (s.0.now ≡ t.0.now)
print_refused κs a x y s t p q = (p.end ∙ sym q.end, p.now ∙ sym q.now)

pub print_total : (κs : _) (a : _) (x y : _) (s t : _) → print-total-reads.Post κs a x s → print-total-reads.Post κs a y t
    → (s.0.now.at ≡ t.0.now.at) × (s.0.now.out.now ≡ t.0.now.out.now) × (s.0.now.out.ghost_name ≡ t.0.now.out.ghost_name)
print_total κs a x y s t p q = (p.written.end ∙ sym q.written.end, p.written.now ∙ sym q.written.now, p.same_buffer ∙ sym q.same_buffer)

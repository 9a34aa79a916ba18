-- "any two permitted answers coincide": of each public function, over its contract as it stands. Whatever the arguments a are, two
-- answers x and y that the contract permits are one, and so is what is lent to be written, as the calls leave it in s and in t: of a
-- pen, where it stands, the bytes of its buffer, and which buffer that is.
-- Assumes nothing.
use mathlib.Core.Path.{◌≡◌, sym, ◌∙◌}
use Rattle.lines.proofs.line_of.Reads as line-of-reads
use Rattle.lines.proofs.Line.print.Reads as print-of-line-reads

pub line_of : (κs : _) (a : _) (x y : _) (s t : _) → line-of-reads.Post κs a x s → line-of-reads.Post κs a y t → x ≡ y
line_of κs a x y s t p q = p ∙ sym q

pub line_print : (κs : _) (a : _) (x y : _) (s t : _) → print-of-line-reads.Post κs a x s → print-of-line-reads.Post κs a y t
    → (s.1.0.now.at ≡ t.1.0.now.at) × (s.1.0.now.out.now ≡ t.1.0.now.out.now) × (s.1.0.now.out.ghost_name ≡ t.1.0.now.out.ghost_name)
line_print κs a x y s t p q = (p.written.end ∙ sym q.written.end, p.written.now ∙ sym q.written.now, p.same_buffer ∙ sym q.same_buffer)

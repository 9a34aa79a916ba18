-- "any two permitted answers coincide": of each public function, over its contract as it stands. Whatever the arguments a are, two
-- answers x and y that the contract permits are one, and so is each byte lent to be written, as the calls leave it in s and in t: of a
-- pen, where it stands, the bytes of its buffer, and which buffer that is.
-- Assumes nothing.
use mathlib.Core.Path.{◌≡◌, sym, ◌∙◌}
use Rattle.writing.proofs.Pen.new.Reads as new-of-pen-reads
use Rattle.writing.proofs.Pen.put.Reads as put-of-pen-reads
use Rattle.writing.proofs.Pen.word.Reads as word-of-pen-reads
use Rattle.writing.proofs.put.Reads as put_reads
use Rattle.writing.proofs.put_word.Reads as put-word-reads

pub pen_new : (κs : _) (a : _) (x y : _) (s t : _) → new-of-pen-reads.Post κs a x s → new-of-pen-reads.Post κs a y t
    → (x.at ≡ y.at) × (x.out.now ≡ y.out.now) × (x.out.ghost_name ≡ y.out.ghost_name)
pen_new κs a x y s t p q = (p.1.0 ∙ sym q.1.0, p.1.1 ∙ sym q.1.1, p.0 ∙ sym q.0)

pub pen_put : (κs : _) (a : _) (x y : _) (s t : _) → put-of-pen-reads.Post κs a x s → put-of-pen-reads.Post κs a y t
    → (s.0.now.at ≡ t.0.now.at) × (s.0.now.out.now ≡ t.0.now.out.now) × (s.0.now.out.ghost_name ≡ t.0.now.out.ghost_name)
pen_put κs a x y s t p q = (p.written.end ∙ sym q.written.end, p.written.now ∙ sym q.written.now, p.same_buffer ∙ sym q.same_buffer)

pub pen_word : (κs : _) (a : _) (x y : _) (s t : _) → word-of-pen-reads.Post κs a x s → word-of-pen-reads.Post κs a y t
    → (s.0.now.at ≡ t.0.now.at) × (s.0.now.out.now ≡ t.0.now.out.now) × (s.0.now.out.ghost_name ≡ t.0.now.out.ghost_name)
pen_word κs a x y s t p q = (p.written.end ∙ sym q.written.end, p.written.now ∙ sym q.written.now, p.same_buffer ∙ sym q.same_buffer)

pub put : (κs : _) (a : _) (x y : _) (s t : _) → put_reads.Post κs a x s → put_reads.Post κs a y t → (x ≡ y) × (s.0.now ≡ t.0.now)
put κs a x y s t p q = (p.end ∙ sym q.end, p.now ∙ sym q.now)

pub put_word : (κs : _) (a : _) (x y : _) (s t : _) → put-word-reads.Post κs a x s → put-word-reads.Post κs a y t → (x ≡ y) × (s.0.now ≡ t.0.now)
put_word κs a x y s t p q = (p.end ∙ sym q.end, p.now ∙ sym q.now)

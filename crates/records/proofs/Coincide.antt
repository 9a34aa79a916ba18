-- "any two permitted answers coincide": of each public function, over its contract as it stands. Whatever the arguments a are, two
-- answers x and y that the contract permits are one, and so is each byte lent to be written, as the calls leave it in s and in t.
-- Assumes nothing.
use mathlib.Core.Path.{◌≡◌, sym, ap, ◌∙◌}
use Rattle.std.specs.Prelude.{Result, Ok, Err, IfOk}
use Rattle.answer.specs.Answer.{Answer, answer_of}
use Rattle.answer.specs.declared.Refusal.{Refusal}
use Rattle.segment.specs.declared.Description.{Description}
use Rattle.segment.specs.declared.Segment.{Segment}
use Rattle.segment.proofs.Same.{segments_same}
use Rattle.records.proofs.described_by.Reads as described-by-reads
use Rattle.records.proofs.segment_of.Reads as segment-of-reads

pub described_by : (κs : _) (a : _) (x y : _) (s t : _) → described-by-reads.Post κs a x s → described-by-reads.Post κs a y t → x ≡ y
described_by κs a x y s t p q = p ∙ sym q

-- what is handed back is told by the answer and the numbers
results_same : (x y : Result Segment Refusal) (d : Description) (a : Answer) → answer_of x ≡ a → answer_of y ≡ a → IfOk x (λ s. s.numbers ≡ d) → IfOk y (λ s. s.numbers ≡ d) → x ≡ y
results_same (Ok x) (Ok y) d a p q h k = ap Ok (segments_same x y (h ∙ sym k))
results_same (Ok x) (Err e) d a p q h k = cc
results_same (Err e) (Ok y) d a p q h k = cc
results_same (Err e) (Err f) d a p q h k = cc

pub segment_of : (κs : _) (a : _) (x y : _) (s t : _) → segment-of-reads.Post κs a x s → segment-of-reads.Post κs a y t → x ≡ y
segment_of κs a x y s t p q = results_same x y _ _ p.0 q.0 p.1 q.1

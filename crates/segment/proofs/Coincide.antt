-- "any two permitted answers coincide": of each public function, over its contract as it stands. Whatever the arguments a are, two
-- answers x and y that the contract permits are one, and so is each byte lent to be written, as the calls leave it in s and in t.
-- Assumes nothing.
use mathlib.Core.Path.{◌≡◌, sym, ap, ◌∙◌}
use Rattle.std.specs.Prelude.{Result, Ok, Err, IfOk}
use Rattle.answer.specs.Answer.{Answer, answer_of}
use Rattle.answer.specs.declared.Refusal.{Refusal}
use Rattle.segment.specs.declared.Description.{Description}
use Rattle.segment.specs.declared.Segment.{Segment}
use Rattle.segment.proofs.Same.{segments_same}
use Rattle.segment.proofs.described.Reads as described-reads
use Rattle.segment.proofs.Segment.intervals.Reads as intervals-of-segment-reads
use Rattle.segment.proofs.Segment.size.Reads as size-of-segment-reads
use Rattle.segment.proofs.Segment.stored.Reads as stored-of-segment-reads
use Rattle.segment.proofs.Segment.length.Reads as length-of-segment-reads
use Rattle.segment.proofs.Segment.of.Reads as of-of-segment-reads
use Rattle.segment.proofs.Segment.of_bytes.Reads as of-bytes-of-segment-reads
use Rattle.segment.proofs.Segment.range_rule.Reads as range-rule-of-segment-reads
use Rattle.segment.proofs.place_rule.Reads as place-rule-reads
use Rattle.segment.proofs.Segment.offset.Reads as offset-of-segment-reads
use Rattle.segment.proofs.Segment.span.Reads as span-of-segment-reads

pub described : (κs : _) (a : _) (x y : _) (s t : _) → described-reads.Post κs a x s → described-reads.Post κs a y t → x ≡ y
described κs a x y s t p q = p ∙ sym q

pub segment_intervals : (κs : _) (a : _) (x y : _) (s t : _) → intervals-of-segment-reads.Post κs a x s → intervals-of-segment-reads.Post κs a y t → x ≡ y
segment_intervals κs a x y s t p q = p ∙ sym q

pub segment_size : (κs : _) (a : _) (x y : _) (s t : _) → size-of-segment-reads.Post κs a x s → size-of-segment-reads.Post κs a y t → x ≡ y
segment_size κs a x y s t p q = p ∙ sym q

pub segment_stored : (κs : _) (a : _) (x y : _) (s t : _) → stored-of-segment-reads.Post κs a x s → stored-of-segment-reads.Post κs a y t → x ≡ y
segment_stored κs a x y s t p q = p ∙ sym q

pub segment_length : (κs : _) (a : _) (x y : _) (s t : _) → length-of-segment-reads.Post κs a x s → length-of-segment-reads.Post κs a y t → x ≡ y
segment_length κs a x y s t p q = p ∙ sym q

-- what is handed back is told by the answer and the numbers
results_same : (x y : Result Segment Refusal) (d : Description) (a : Answer) → answer_of x ≡ a → answer_of y ≡ a → IfOk x (λ s. s.numbers ≡ d) → IfOk y (λ s. s.numbers ≡ d) → x ≡ y
results_same (Ok x) (Ok y) d a p q h k = ap Ok (segments_same x y (h ∙ sym k))
results_same (Ok x) (Err e) d a p q h k = cc
results_same (Err e) (Ok y) d a p q h k = cc
results_same (Err e) (Err f) d a p q h k = cc

pub segment_of : (κs : _) (a : _) (x y : _) (s t : _) → of-of-segment-reads.Post κs a x s → of-of-segment-reads.Post κs a y t → x ≡ y
segment_of κs a x y s t p q = results_same x y _ _ p.0 q.0 p.1 q.1

pub segment_of_bytes : (κs : _) (a : _) (x y : _) (s t : _) → of-bytes-of-segment-reads.Post κs a x s → of-bytes-of-segment-reads.Post κs a y t → x ≡ y
segment_of_bytes κs a x y s t p q = results_same x y _ _ p.0 q.0 p.1 q.1

pub segment_range_rule : (κs : _) (a : _) (x y : _) (s t : _) → range-rule-of-segment-reads.Post κs a x s → range-rule-of-segment-reads.Post κs a y t → x ≡ y
segment_range_rule κs a x y s t p q = p ∙ sym q

pub place_rule : (κs : _) (a : _) (x y : _) (s t : _) → place-rule-reads.Post κs a x s → place-rule-reads.Post κs a y t → x ≡ y
place_rule κs a x y s t p q = p ∙ sym q

pub segment_offset : (κs : _) (a : _) (x y : _) (s t : _) → offset-of-segment-reads.Post κs a x s → offset-of-segment-reads.Post κs a y t → x ≡ y
segment_offset κs a x y s t p q = p ∙ sym q

pub segment_span : (κs : _) (a : _) (x y : _) (s t : _) → span-of-segment-reads.Post κs a x s → span-of-segment-reads.Post κs a y t → x ≡ y
segment_span κs a x y s t p q = p ∙ sym q

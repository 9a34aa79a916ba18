-- "any two permitted answers coincide": of each public function, over its contract as it stands. Whatever the arguments a are, two
-- answers x and y that the contract permits are one, and so is each byte lent to be written, as the calls leave it in s and in t.
-- Assumes nothing.
use mathlib.Core.Path.{◌≡◌, sym, ap, ◌∙◌}
use Rattle.execute.specs.Lent.{Lent}
use Rattle.lamptassel.proofs.lamptassel_execute.Reads as execute-reads
use Rattle.lamptassel.proofs.lamptassel_format_choice.Reads as format-choice-reads
use Rattle.lamptassel.proofs.lamptassel_fill.Reads as fill-reads
use Rattle.lamptassel.proofs.lamptassel_scrub.Reads as scrub-reads
use Rattle.lamptassel.proofs.lamptassel_parity.Reads as parity-reads
use Rattle.lamptassel.proofs.lamptassel_rebuild.Reads as rebuild-reads
use Rattle.lamptassel.proofs.lamptassel_correct.Reads as correct-reads
use Rattle.lamptassel.proofs.lamptassel_list.Reads as list-reads
use Rattle.lamptassel.proofs.lamptassel_sense.Reads as sense-reads
use Rattle.lamptassel.proofs.lamptassel_guard.Reads as guard-reads
use Rattle.lamptassel.proofs.lamptassel_guard_by_division.Reads as guard-by-division-reads
use Rattle.lamptassel.proofs.lamptassel_guards.Reads as guards-reads

pub execute : (κs : _) (a : _) (x y : _) (s t : _) → execute-reads.Post κs a x s → execute-reads.Post κs a y t → (x ≡ y) × (s.1.1.1.1.1.1.0.now ≡ t.1.1.1.1.1.1.0.now) × (s.1.1.1.1.1.1.1.1.0.now ≡ t.1.1.1.1.1.1.1.1.0.now) × (s.1.1.1.1.1.1.1.1.1.0.now ≡ t.1.1.1.1.1.1.1.1.1.0.now) × (s.1.1.1.1.1.1.1.1.1.1.0.now ≡ t.1.1.1.1.1.1.1.1.1.1.0.now)
execute κs a x y s t p q = (p.answer ∙ sym q.answer, ap (λ (l : Lent). l.segment) (p.left ∙ sym q.left), ap (λ (l : Lent). l.buffer) (p.left ∙ sym q.left), p.address ∙ sym q.address, p.place ∙ sym q.place)

pub format_choice : (κs : _) (a : _) (x y : _) (s t : _) → format-choice-reads.Post κs a x s → format-choice-reads.Post κs a y t → (x ≡ y) × (s.1.1.1.1.0.now ≡ t.1.1.1.1.0.now)
format_choice κs a x y s t p q = (p.answer ∙ sym q.answer, p.kind ∙ sym q.kind)

pub fill : (κs : _) (a : _) (x y : _) (s t : _) → fill-reads.Post κs a x s → fill-reads.Post κs a y t → (x ≡ y) × (s.1.1.1.1.1.1.0.now ≡ t.1.1.1.1.1.1.0.now)
fill κs a x y s t p q = (p.answer ∙ sym q.answer, p.left ∙ sym q.left)

pub scrub : (κs : _) (a : _) (x y : _) (s t : _) → scrub-reads.Post κs a x s → scrub-reads.Post κs a y t → (x ≡ y) × (s.1.1.1.1.1.1.1.1.1.0.now ≡ t.1.1.1.1.1.1.1.1.1.0.now) × (s.1.1.1.1.1.1.1.1.1.1.0.now ≡ t.1.1.1.1.1.1.1.1.1.1.0.now) × (s.1.1.1.1.1.1.1.1.1.1.1.0.now ≡ t.1.1.1.1.1.1.1.1.1.1.1.0.now) × (s.1.1.1.1.1.1.1.1.1.1.1.1.0.now ≡ t.1.1.1.1.1.1.1.1.1.1.1.1.0.now)
scrub κs a x y s t p q = (p.answer ∙ sym q.answer, p.next ∙ sym q.next, p.judged ∙ sym q.judged, p.faults ∙ sym q.faults, p.first ∙ sym q.first)

pub parity : (κs : _) (a : _) (x y : _) (s t : _) → parity-reads.Post κs a x s → parity-reads.Post κs a y t → (x ≡ y) × (s.1.1.1.1.1.1.1.1.0.now ≡ t.1.1.1.1.1.1.1.1.0.now)
parity κs a x y s t p q = (p.answer ∙ sym q.answer, p.left ∙ sym q.left)

pub rebuild : (κs : _) (a : _) (x y : _) (s t : _) → rebuild-reads.Post κs a x s → rebuild-reads.Post κs a y t → (x ≡ y) × (s.1.1.1.1.1.1.1.1.1.0.now ≡ t.1.1.1.1.1.1.1.1.1.0.now)
rebuild κs a x y s t p q = (p.answer ∙ sym q.answer, p.left ∙ sym q.left)

pub correct : (κs : _) (a : _) (x y : _) (s t : _) → correct-reads.Post κs a x s → correct-reads.Post κs a y t → (x ≡ y) × (s.1.1.1.1.1.1.1.1.0.now ≡ t.1.1.1.1.1.1.1.1.0.now)
correct κs a x y s t p q = (p.answer ∙ sym q.answer, p.left ∙ sym q.left)

pub list : (κs : _) (a : _) (x y : _) (s t : _) → list-reads.Post κs a x s → list-reads.Post κs a y t → (x ≡ y) × (s.1.0.now ≡ t.1.0.now)
list κs a x y s t p q = (p.count ∙ sym q.count, p.text ∙ sym q.text)

pub sense : (κs : _) (a : _) (x y : _) (s t : _) → sense-reads.Post κs a x s → sense-reads.Post κs a y t → x ≡ y
sense κs a x y s t p q = p ∙ sym q

pub guard : (κs : _) (a : _) (x y : _) (s t : _) → guard-reads.Post κs a x s → guard-reads.Post κs a y t → x ≡ y
guard κs a x y s t p q = p ∙ sym q

pub guard_by_division : (κs : _) (a : _) (x y : _) (s t : _) → guard-by-division-reads.Post κs a x s → guard-by-division-reads.Post κs a y t → x ≡ y
guard_by_division κs a x y s t p q = p ∙ sym q

pub guards : (κs : _) (a : _) (x y : _) (s t : _) → guards-reads.Post κs a x s → guards-reads.Post κs a y t → (x ≡ y) × (s.1.1.0.now ≡ t.1.1.0.now)
guards κs a x y s t p q = (p.answer ∙ sym q.answer, p.left ∙ sym q.left)

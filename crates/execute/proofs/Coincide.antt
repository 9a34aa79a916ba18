-- "any two permitted answers coincide": of each public function, over its contract as it stands. Whatever the arguments a are, two
-- answers x and y that the contract permits are one, and so is each byte lent to be written, as the calls leave it in s and in t.
-- Assumes nothing.
use mathlib.Core.Path.{◌≡◌, sym, ap, ◌∙◌}
use Rattle.answer.specs.Outcome.{Outcome}
use Rattle.execute.specs.Lent.{Lent}
use Rattle.execute.proofs.execute.Reads as execute-reads

pub execute : (κs : _) (a : _) (x y : _) (s t : _) → execute-reads.Post κs a x s → execute-reads.Post κs a y t → (x ≡ y) × (s.1.0.now ≡ t.1.0.now) × (s.1.1.1.0.now ≡ t.1.1.1.0.now)
execute κs a x y s t p q = (ap (λ (o : Outcome Lent). o.answer) (p ∙ sym q), ap (λ (o : Outcome Lent). o.left.segment) (p ∙ sym q), ap (λ (o : Outcome Lent). o.left.buffer) (p ∙ sym q))

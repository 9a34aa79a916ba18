-- "any two permitted answers coincide": of each public function, over its contract as it stands. Whatever the arguments a are, two
-- answers x and y that the contract permits are one, and so is each byte lent to be written, as the calls leave it in s and in t.
-- Assumes nothing.
use mathlib.Core.Path.{◌≡◌, sym, ◌∙◌}
use Rattle.scrub.proofs.Laws.{steps_coincide, found_coincide}
use Rattle.scrub.proofs.step.Reads as step-reads
use Rattle.scrub.proofs.scrub.Reads as scrub-reads

pub step : (κs : _) (a : _) (x y : _) (s t : _) → step-reads.Post κs a x s → step-reads.Post κs a y t → (x ≡ y) × (s.1.1.1.1.1.0.now ≡ t.1.1.1.1.1.0.now)
step κs a x y s t p q =
    let same = steps_coincide p.0 q.0 in
    (same.0, found_coincide _ _ same.1 same.2 p.1 q.1)

pub scrub : (κs : _) (a : _) (x y : _) (s t : _) → scrub-reads.Post κs a x s → scrub-reads.Post κs a y t → x ≡ y
scrub κs a x y s t p q = p ∙ sym q

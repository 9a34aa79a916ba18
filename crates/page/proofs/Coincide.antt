-- "any two permitted answers coincide": of each public function, over its contract as it stands. Whatever the arguments a are, two
-- answers x and y that the contract permits are one, and so is each byte lent to be written, as the calls leave it in s and in t.
-- Assumes nothing.
use mathlib.Core.Path.{◌≡◌, sym, ◌∙◌}
use Rattle.page.proofs.print_listed.Reads as print-listed-reads

pub print_listed : (κs : _) (a : _) (x y : _) (s t : _) → print-listed-reads.Post κs a x s → print-listed-reads.Post κs a y t → (x ≡ y) × (s.1.1.0.now ≡ t.1.1.0.now)
print_listed κs a x y s t p q = (p.end ∙ sym q.end, p.now ∙ sym q.now)

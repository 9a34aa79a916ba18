-- "any two permitted answers coincide": of each public function, over its contract as it stands. Whatever the arguments a are, two
-- answers x and y that the contract permits are one, and so is each byte lent to be written, as the calls leave it in s and in t.
-- Assumes nothing.
use mathlib.Core.Path.{◌≡◌, sym, ap, ◌∙◌}
use mathlib.Core.List.{List}
use Prim.Native.Nat.{ℕ}
use Rattle.answer.specs.Outcome.{Outcome}
use Rattle.guards.proofs.guards.Reads as guards-reads

pub guards : (κs : _) (a : _) (x y : _) (s t : _) → guards-reads.Post κs a x s → guards-reads.Post κs a y t → (x ≡ y) × (s.1.1.0.now ≡ t.1.1.0.now)
guards κs a x y s t p q = (ap (λ (o : Outcome (List ℕ)). o.answer) (p ∙ sym q), ap (λ (o : Outcome (List ℕ)). o.left) (p ∙ sym q))

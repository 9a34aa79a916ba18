-- "any two permitted answers coincide": of each public function, over its contract as it stands. Whatever the arguments a are, two
-- answers x and y that the contract permits are one, and so is each byte lent to be written, as the calls leave it in s and in t.
-- Assumes nothing.
use mathlib.Core.Path.{◌≡◌, sym, ap, subst, ◌∙◌}
use Rattle.std.specs.Prelude.{Result, Ok, Err, MatchResult}
use Rattle.std.proofs.Math.Nat.{ℕ_set}
use Rattle.std.specs.Coded.{le_prop}
use Rattle.answer.specs.declared.Refusal.{Refusal}
use Rattle.segment.specs.declared.Description.{Description}
use Rattle.segment.specs.declared.Segment.{Segment}
use Rattle.segment.proofs.Same.{segments_same}
use Rattle.command.specs.declared.Command.{Command}
use Rattle.refusal.specs.declared.Lengths.{Lengths}
use Rattle.admission.specs.declared.Admitted.{Admitted}
use Rattle.admission.specs.Admission.{Decided}
use Rattle.admission.specs.Ready.{Ready}
use Rattle.admission.proofs.admit.Reads as admit-reads

one_proof : (d : Description) (k : Command) (l : Lengths) → IsProp (Ready d k l)
one_proof d k l = hlevel (le_prop, ℕ_set)

made : (s : Segment) (k : Command) (l : Lengths) → Ready s.numbers k l → Admitted
made s k l r = record { segment = s; command = k; lengths = l; ready = r }

Parts : Type 0
Parts = Segment × Command × Lengths

-- what was admitted is what its parts are: that they are ready has one proof at most
admitted_same : (x y : Admitted) → x.segment ≡ y.segment → x.command ≡ y.command → x.lengths ≡ y.lengths → x ≡ y
unfolding made Parts
admitted_same x y s k l =
    let p : ◌≡◌ {A = Parts} (x.segment, x.command, x.lengths) (y.segment, y.command, y.lengths) = cc in
    subst (λ (t : Parts). (r : Ready t.0.numbers t.1 t.2) → x ≡ made t.0 t.1 t.2 r) p
    (λ r. ap (made x.segment x.command x.lengths) (one_proof _ _ _ x.ready r)) y.ready

-- a result that the contract permits, of a description, lengths and what is decided
Permitted : Result Admitted Refusal → Description → Lengths → Decided → Type 0
Permitted x d l z = MatchResult x (λ a. (Ok a.command ≡ z) × (a.segment.numbers ≡ d) × (a.lengths ≡ l)) (λ e. Err e ≡ z)

results_same : (x y : Result Admitted Refusal) (d : Description) (l : Lengths) (z : Decided) → Permitted x d l z → Permitted y d l z → x ≡ y
unfolding Permitted
results_same (Ok x) (Ok y) d l z p q =
    let command : x.command ≡ y.command = cc in
    ap Ok (admitted_same x y (segments_same _ _ (p.1 ∙ sym q.1)) command (p.2 ∙ sym q.2))
results_same (Ok x) (Err e) d l z p q = cc
results_same (Err e) (Ok y) d l z p q = cc
results_same (Err e) (Err f) d l z p q = cc

pub admit : (κs : _) (a : _) (x y : _) (s t : _) → admit-reads.Post κs a x s → admit-reads.Post κs a y t → x ≡ y
unfolding Permitted
admit κs a x y s t p q = results_same x y _ _ _ p q

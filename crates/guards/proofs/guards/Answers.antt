-- `guards::guards`: each refusal denies one of the facts of a fit, and the last return has them all.
use mathlib.Core.Path.{◌≡◌, sym, ap, ◌∙◌}
use mathlib.Core.List.{List}
use Prim.Native.Nat.{ℕ, ◌+◌, ◌*◌, ◌/◌, ◌%◌, ◌<◌}
use native.Mathlib.Nat.{div-add-mod', add-zero}
use native.Mathlib.Omega.{arith}
use lib.Dec.{T, ltb, eqb, ltb→lt, eqb→eq, lt→ltb, eqb_refl}
use lib.ListN.{length}
use Rattle.words.proofs.Choice.{and_true, and_left, and_right}
use Rattle.answer.specs.Answer.{good, refused}
use Rattle.answer.specs.Outcome.{outcome}
use Rattle.answer.specs.declared.Reason.TheVariants as reasons
use Rattle.answer.proofs.Ladder.{met, unmet}
use Rattle.answer.proofs.Outcome.{refuses, leaves}
use Rattle.guards.specs.Guards.{guards, guards_rule, guards_of, fits}
use Rattle.guards.proofs.guards.Goals as goal
use Rattle.guards.proofs.guards.Goals.{then-data-size-ne0-via-then-data-size-ne0, then-data-size-ne0-via-else-data-size-ne0+then-out-count}

record Fit (s : List ℕ) (size : ℕ) (out : List ℕ) : Type 0 where
  some : 0 < size
  whole : length s % size ≡ 0
  room : length out ≡ length s / size * 2

fit_facts : (s : List ℕ) (size : ℕ) (out : List ℕ) → T (fits s size out) → Fit s size out
unfolding fits
fit_facts s size out t =
    let rest = and_right (ltb 0 size) _ t in
    record {
      some = ltb→lt 0 size (and_left (ltb 0 size) _ t);
      whole = eqb→eq (length s % size) 0 (and_left (eqb (length s % size) 0) _ rest);
      room = eqb→eq (length out) (length s / size * 2) (and_right (eqb (length s % size) 0) _ rest);
    }

fit : (s : List ℕ) (size : ℕ) (out : List ℕ) → Fit s size out → T (fits s size out)
unfolding fits
fit s size out f =
    let whole : T (eqb (length s % size) 0) = rw f.whole tt in
    let room : T (eqb (length out) (length s / size * 2)) = rw f.room (eqb_refl (length s / size * 2)) in
    and_true (ltb 0 size) _ (lt→ltb 0 size f.some) (and_true (eqb (length s % size) 0) _ whole room)

module _ (s : List ℕ) (size : ℕ) (out : List ℕ) where
  unfit : (Fit s size out → ⊥) → outcome (refused reasons.BufferLengthWrong) out ≡ guards s size out
  unfolding guards guards_rule
  unfit n = refuses _ _ _ (unmet (fits s size out) _ (λ t. n (fit_facts s size out t)))

  fitting : (new : List ℕ) → Fit s size out → new ≡ guards_of size (length s / size) s → outcome good new ≡ guards s size out
  unfolding guards guards_rule
  fitting new f e = leaves _ _ _ (met (fits s size out) _ (fit s size out f)) e

all : (n size : ℕ) → n % size ≡ 0 → n / size * size ≡ n
all n size e = sym (add-zero (n / size * size)) ∙ ap (λ (r : ℕ). n / size * size + r) (sym e) ∙ div-add-mod' n size

pub returns-then-size-eq0 : goal.returns-then-size-eq0
returns-then-size-eq0 c = unfit _ _ _ (λ f. omega (arith, f.some))

pub returns-then-data-size-ne0 : goal.returns-then-data-size-ne0
returns-then-data-size-ne0 c =
    unfit _ _ _
    (λ f. elim c.then-data-size-ne0.branch [
      | then-data-size-ne0-via-then-data-size-ne0 w ↦ w.if-data-size-ne0.true f.whole
      | then-data-size-ne0-via-else-data-size-ne0+then-out-count w ↦ w.if-out-count.true f.room
    ])

pub returns : goal.returns
returns c =
    fitting _ _ _ _ (record { some = omega arith; whole = c.if-data-size-ne0.false; room = c.if-out-count.false }) c.fill_guards.ensures

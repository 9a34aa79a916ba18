-- `admission::admit`: the segment's rules, the command's bytes, its fields, in this order.
use mathlib.Core.Path.{◌≡◌, refl, sym, ap, ◌∙◌}
use mathlib.Core.List.{List}
use Prim.Native.Nat.{ℕ}
use Rattle.std.specs.Prelude.{Ok, Err}
use Rattle.std.proofs.lemmas.Result.{err_from_is_err_and}
use Rattle.answer.specs.Answer.{good, is_good}
use Rattle.answer.specs.declared.Reason.{Reason}
use Rattle.answer.specs.declared.Refusal.{Refusal}
use Rattle.answer.specs.declared.Refusal.TheVariants.{Refused}
use Rattle.segment.specs.declared.Description.{Description}
use Rattle.segment.specs.Rules.{segment_rules}
use Rattle.command.specs.declared.Command.{Command}
use Rattle.decoding.specs.Commands.{decode}
use Rattle.refusal.specs.declared.Lengths.{Lengths}
use Rattle.refusal.specs.Refusal.{refusal}
use Rattle.admission.specs.Admission.{Decided, admitted}
use Rattle.admission.specs.Ready.{Ready}
use Rattle.admission.proofs.Ready.{ready}
use Rattle.admission.proofs.admit.Goals as goal

module _ (d : Description) (l : Lengths) (command : List ℕ) where
  by_segment : (e : Refusal) → Err e ≡ segment_rules d l.segment → ◌≡◌ {A = Decided} (Err e) (admitted d l command)
  unfolding admitted
  by_segment e h = rw (← h) refl

  by_bytes : (r : Reason) → good ≡ segment_rules d l.segment → decode command ≡ Err r → ◌≡◌ {A = Decided} (Err (Refused r)) (admitted d l command)
  unfolding admitted
  by_bytes r g h = rw (← g, h) refl

  -- what passes the segment's rules and is decoded: x is the segment that was made of d
  module _ (x : Description) (k : Command) (n : x ≡ d) (g : good ≡ segment_rules d l.segment) (h : decode command ≡ Ok k) where
    by_fields : (e : Refusal) → Err e ≡ refusal x k l → ◌≡◌ {A = Decided} (Err e) (admitted d l command)
    unfolding admitted
    by_fields e r = rw (← g, h, ← n, ← r) refl

    goes_on : good ≡ refusal x k l → ◌≡◌ {A = Decided} (Ok k) (admitted d l command)
    unfolding admitted
    goes_on r = rw (← g, h, ← n, ← r) refl

    is_ready : good ≡ refusal x k l → Ready x k l
    is_ready r = ready x k l (ap is_good (ap (λ (y : Description). segment_rules y l.segment) n ∙ sym g)) (ap is_good (sym r))

pub returns-in_err-segment : goal.returns-in_err-segment
returns-in_err-segment c =
    let p = err_from_is_err_and c.from_residual.result c.from_residual.ensures.1 in
    rw (p.1, p.2) (by_segment _ _ _ _ c.in_err-segment.ensures.answer)

pub returns-in_err-asked : goal.returns-in_err-asked
returns-in_err-asked c =
    let p = err_from_is_err_and c.from_residual-in_err-asked.result c.from_residual-in_err-asked.ensures.1 in
    rw (p.1, p.2) (by_bytes _ _ _ _ c.in_ok-segment.ensures.answer (sym c.decode.ensures ∙ c.in_err-asked.was))

pub returns-in_err-refusal : goal.returns-in_err-refusal
returns-in_err-refusal c =
    let p = err_from_is_err_and c.from_residual-in_err-refusal.result c.from_residual-in_err-refusal.ensures.1 in
    rw (p.1, p.2) (by_fields _ _ _ _ _ c.in_ok-segment.ensures.numbers c.in_ok-segment.ensures.answer (sym c.decode.ensures ∙ c.in_ok-asked.was) _ c.in_err-refusal.ensures)

pub invariant_of-result : goal.invariant_of-result
invariant_of-result c =
    record { ready = is_ready _ _ c.args.command.now _ _ c.in_ok-segment.ensures.numbers c.in_ok-segment.ensures.answer (sym c.decode.ensures ∙ c.in_ok-asked.was) c.in_ok-refusal.ensures }

pub returns : goal.returns
returns c = (
  goes_on _ _ _ _ _ c.in_ok-segment.ensures.numbers c.in_ok-segment.ensures.answer (sym c.decode.ensures ∙ c.in_ok-asked.was) c.in_ok-refusal.ensures,
  c.in_ok-segment.ensures.numbers,
  refl,
)

-- The laws of a line: its state and fields from the bytes of its interval, and its text from the texts that it is printed as.
-- Assumes nothing.
use mathlib.Core.Path.{◌≡◌, ap, ◌∙◌}
use mathlib.Core.Bool.{Bool, true, false}
use mathlib.Core.List.{List, [], ◌∷◌, ◌++◌, append_assoc}
use Prim.Native.Nat.{ℕ, ◌≤◌}
use native.Mathlib.Omega.{arith}
use lib.ListN.{length, take, length-append}
use Rattle.answer.specs.Answer.{Answer}
use Rattle.interval.specs.declared.Rules.{Rules}
use Rattle.interval.specs.declared.Place.{Place}
use Rattle.field.specs.Field.{stored_guard, stored_application, stored_reference, data_of, field_of}
use Rattle.interval.specs.Interval.{judge_pieces, judge_interval}
use Rattle.writing.specs.declared.Pen.{Pen}
use Rattle.writing.specs.Printed.{Printed}
use Rattle.writing.proofs.Writing.{printed_then, printed_as}
use Rattle.digits.specs.Digits.{hexadecimal, decimal}
use Rattle.digits.proofs.Digits.{decimal_most, hexadecimal_length}
use Rattle.lines.specs.declared.Line.{Line}
use Rattle.lines.specs.declared.State.{State}
use Rattle.lines.specs.declared.State.TheVariants.{Skipped, Guard, Ref, Ok}
use Rattle.lines.specs.Lines.{worded, state_of, line_of, state_text, line_text}

-- ---- the state
pub state_skipped : (r : Rules) (k : Bool) (p : Place) (s : List ℕ) → k ≡ true → Skipped ≡ state_of r k p s
unfolding state_of
state_skipped r k p s e = rw e

pub state_judged : (r : Rules) (k : Bool) (p : Place) (s : List ℕ) (a : Answer) (f : List ℕ) (x : State) → k ≡ false → f ≡ field_of r.size s
    → a ≡ judge_pieces r p (take r.size s) f → x ≡ worded a → x ≡ state_of r k p s
unfolding state_of judge_interval data_of
state_judged r k p s a f x e b m w = rw e (w ∙ ap worded (m ∙ ap (judge_pieces r p (take r.size s)) b))

-- ---- the line
abbrev pub made : ℕ → ℕ → ℕ → ℕ → ℕ → State → Line
made a i g m f x = record { address = a; interval = i; guard = g; application = m; reference = f; state = x }

pub line_made : (r : Rules) (k : Bool) (i : ℕ) (p : Place) (s : List ℕ) (d : List ℕ) (g m f : ℕ) (x : State) → d ≡ field_of r.size s
    → g ≡ stored_guard d → m ≡ stored_application d → f ≡ stored_reference d → x ≡ state_of r k p s → made p.address i g m f x ≡ line_of r k i p s
unfolding line_of
line_made r k i p s d g m f x e eg em ef ex = rw (eg, em, ef, ex, e)

-- ---- its text
module _ (l : Line) {p a i g m f e z : Pen} where
  pub line_printed : Printed (decimal l.address ++ (0x20 ∷ [])) p a → Printed (decimal l.interval ++ (0x20 ∷ [])) a i
      → Printed (hexadecimal 4 l.guard ++ (0x20 ∷ [])) i g → Printed (hexadecimal 4 l.application ++ (0x20 ∷ [])) g m
      → Printed (hexadecimal 8 l.reference ++ (0x20 ∷ [])) m f → Printed (state_text l.state) f e → Printed (0x0A ∷ []) e z → Printed (line_text l) p z
  unfolding line_text
  line_printed wa wi wg wm wf we wz =
      printed_as (simp append_assoc) (printed_then wa (printed_then wi (printed_then wg (printed_then wm (printed_then wf (printed_then we wz))))))

pub state_most : (x : State) → length (state_text x) ≤ 7
state_most Skipped = omega arith
state_most Guard = omega arith
state_most Ref = omega arith
state_most Ok = omega arith

pub line_most : (l : Line) → length (line_text l) ≤ 69
unfolding line_text
line_most l =
    simp length-append
    (omega (
      arith,
      decimal_most l.address,
      decimal_most l.interval,
      hexadecimal_length 4 l.guard,
      hexadecimal_length 4 l.application,
      hexadecimal_length 8 l.reference,
      state_most l.state,
    ))

-- The laws of text written to a buffer: none, one byte, one text after another.
-- Assumes nothing.
use mathlib.Core.Path.{◌≡◌, refl, sym, ap, ap₂, ◌∙◌}
use mathlib.Core.List.{List, [], ◌∷◌, ◌++◌}
use Prim.Native.Nat.{ℕ, zero, suc, ◌+◌, ◌≤◌}
use native.Mathlib.Nat.{add-zero, zero-add, suc-add, add-suc}
use native.Mathlib.Omega.{arith}
use lib.ListN.{length, set, length-append, length-take, length-drop}
use lib.Seq.{take-length, set_out}
use Rattle.writing.specs.declared.Pen.{Pen}
use Rattle.writing.specs.Laid.{laid, Written}
use Rattle.writing.specs.Printed.{Printed}

-- `laid`, element by element
none : (out : List ℕ) → laid 0 [] out ≡ out
unfolding laid
none out = take-length out

empty : (at : ℕ) (a : List ℕ) → laid at a [] ≡ []
unfolding laid
empty at a = refl

here : (x : ℕ) (a : List ℕ) (o : ℕ) (out : List ℕ) → laid 0 (x ∷ a) (o ∷ out) ≡ x ∷ laid 0 a out
unfolding laid
here x a o out = rw (zero-add, zero-add)

past : (at : ℕ) (a : List ℕ) (o : ℕ) (out : List ℕ) → laid (suc at) a (o ∷ out) ≡ o ∷ laid at a out
unfolding laid
past at a o out = rw suc-add

pub laid_nil : (at : ℕ) (out : List ℕ) → laid at [] out ≡ out
laid_nil zero [] = none []
laid_nil zero (o ∷ out) = none (o ∷ out)
laid_nil (suc at) [] = empty (suc at) []
laid_nil (suc at) (o ∷ out) = past at [] o out ∙ ap (λ (l : List ℕ). o ∷ l) (laid_nil at out)

pub laid_append : (at : ℕ) (a b out : List ℕ) → laid (at + length a) b (laid at a out) ≡ laid at (a ++ b) out
laid_append zero [] b out = rw (none, add-zero)
laid_append zero (x ∷ a) b [] = rw (empty 0 (x ∷ a), empty (0 + length (x ∷ a)) b, empty 0 (x ∷ a ++ b))
laid_append zero (x ∷ a) b (o ∷ out) =
    rw (here x a o out, here x (a ++ b) o out, add-suc, past) (ap (λ (l : List ℕ). x ∷ l) (laid_append zero a b out))
laid_append (suc at) a b [] = rw (empty (suc at) a, empty (suc at + length a) b, empty (suc at) (a ++ b))
laid_append (suc at) a b (o ∷ out) =
    rw (past at a o out, past at (a ++ b) o out, suc-add, past) (ap (λ (l : List ℕ). o ∷ l) (laid_append at a b out))

pub laid_length : (at : ℕ) (a out : List ℕ) → length (laid at a out) ≡ length out
unfolding laid
laid_length at a out = simp (length-take, length-append, length-drop) (omega arith)

stored : (at b : ℕ) (out : List ℕ) → set out at b ≡ laid at (b ∷ []) out
stored zero b [] = sym (empty zero (b ∷ []))
stored (suc at) b [] = sym (empty (suc at) (b ∷ []))
stored zero b (o ∷ out) = sym (here b [] o out ∙ ap (λ (l : List ℕ). b ∷ l) (none out))
stored (suc at) b (o ∷ out) = ap (λ (l : List ℕ). o ∷ l) (stored at b out) ∙ sym (past at (b ∷ []) o out)

-- ---- what the printing functions hand back
pub written_none : (at : ℕ) (out : List ℕ) → Written [] at out at out
written_none at out = record { end = sym (add-zero at); now = sym (laid_nil at out) }

pub written_byte : (at b : ℕ) (out : List ℕ) → Written (b ∷ []) at out (at + 1) (set out at b)
written_byte at b out = record { end = refl; now = stored at b out }

pub written_out : (at b : ℕ) (out : List ℕ) → length out ≤ at → Written (b ∷ []) at out (at + 1) out
written_out at b out h = record { end = refl; now = sym (set_out out at b h) ∙ stored at b out }

-- one text after another
pub written_then : {a b : List ℕ} {at m r : ℕ} {out mid left : List ℕ} → Written a at out m mid → Written b m mid r left → Written (a ++ b) at out r left
written_then {a} {b} {at} {m} {r} {out} {mid} {left} p q =
    record {
      end = q.end ∙ omega (arith, p.end, length-append a b);
      now = q.now ∙ ap₂ (λ (k : ℕ) (l : List ℕ). laid k b l) p.end p.now ∙ laid_append at a b out;
    }

pub written_length : {a : List ℕ} {at r : ℕ} {out left : List ℕ} → Written a at out r left → length left ≡ length out
written_length {a} {at} {r} {out} p = ap length p.now ∙ laid_length at a out

-- the same text, put in another way
pub written_as : {a b : List ℕ} {at r : ℕ} {out left : List ℕ} → a ≡ b → Written a at out r left → Written b at out r left
written_as e w = rw e at w

-- ---- what printing leaves of a pen
pub printed_none : (p : Pen) → Printed [] p p
printed_none p = record { same_buffer = refl; written = written_none p.at p.out.now }

-- one text after another
pub printed_then : {a b : List ℕ} {p q r : Pen} → Printed a p q → Printed b q r → Printed (a ++ b) p r
printed_then f g = record { same_buffer = g.same_buffer ∙ f.same_buffer; written = written_then f.written g.written }

-- the same text, put in another way
pub printed_as : {a b : List ℕ} {p q : Pen} → a ≡ b → Printed a p q → Printed b p q
printed_as e f = rw e at f

-- what is left of a buffer, of a pen made over it
pub printed_over : {text out left : List ℕ} {r : ℕ} {p q : Pen} → r ≡ q.at → left ≡ q.out.now → p.at ≡ 0 → p.out.now ≡ out → Printed text p q
    → Written text 0 out r left
printed_over r l a o f = rw (r, l, ← a, ← o) f.written

-- The laws of lines that are printed and counted: none, one, some after others; and the room that they leave.
-- Assumes nothing.
use mathlib.Core.Path.{◌≡◌, refl, sym, ap, ◌∙◌}
use mathlib.Core.List.{List, [], ◌∷◌, ◌++◌, append_assoc, append-nil}
use Prim.Native.Nat.{ℕ, ◌+◌, ◌*◌, ◌^◌, ◌≤◌}
use native.Mathlib.Nat.{add-zero}
use native.Mathlib.Omega.{arith}
use lib.ListN.{length, length-append}
use Rattle.writing.specs.declared.Pen.{Pen}
use Rattle.writing.specs.Printed.{Printed}
use Rattle.writing.proofs.Writing.{printed_none, printed_then, printed_as}
use Rattle.lines.specs.declared.Line.{Line}
use Rattle.sheet.specs.declared.Counts.{Counts}
use Rattle.lines.specs.declared.State.{State}
use Rattle.lines.specs.declared.State.TheVariants.{Skipped, Guard, Ref, Ok}
use Rattle.lines.specs.Lines.{line_text}
use Rattle.sheet.specs.Sheet.{faulty, skips, count_of, lines_text, PrintedLines, Room}
use Rattle.lines.proofs.LineLaws.{line_most}

pub faulty_most : (x : State) → faulty x ≤ 1
faulty_most Skipped = omega arith
faulty_most Guard = omega arith
faulty_most Ref = omega arith
faulty_most Ok = omega arith

pub skips_most : (x : State) → skips x ≤ 1
skips_most Skipped = omega arith
skips_most Guard = omega arith
skips_most Ref = omega arith
skips_most Ok = omega arith

-- ---- of lines joined
pub lines_append : (a b : List Line) → lines_text (a ++ b) ≡ lines_text a ++ lines_text b
unfolding lines_text
lines_append [] b = refl
lines_append (l ∷ a) b = rw (lines_append a b) (sym (append_assoc (line_text l) (lines_text a) (lines_text b)))

pub count_append : (f : State → ℕ) (a b : List Line) → count_of f (a ++ b) ≡ count_of f a + count_of f b
unfolding count_of
count_append f [] b = omega arith
count_append f (l ∷ a) b = omega (arith, count_append f a b)

-- ---- how much there can be
pub lines_most : (ls : List Line) → length (lines_text ls) ≤ length ls * 69
unfolding lines_text
lines_most [] = omega arith
lines_most (l ∷ ls) = omega (arith, length-append (line_text l) (lines_text ls), line_most l, lines_most ls)

count_most : (f : State → ℕ) → ((x : State) → f x ≤ 1) → (ls : List Line) → count_of f ls ≤ length ls
unfolding count_of
count_most f h [] = omega arith
count_most f h (l ∷ ls) = omega (arith, h l.state, count_most f h ls)

-- ---- printed
pub lines_none : (p : Pen) (c : Counts) → PrintedLines [] p c p c
unfolding lines_text count_of
lines_none p c = record { text = printed_none p; lines = sym (add-zero _); faults = sym (add-zero _); skipped = sym (add-zero _) }

pub lines_one : (l m : Line) {p q : Pen} {c d : Counts} → l ≡ m → Printed (line_text l) p q → d.lines ≡ c.lines + 1
    → d.faults ≡ c.faults + faulty l.state → d.skipped ≡ c.skipped + skips l.state → PrintedLines (m ∷ []) p c q d
unfolding lines_text count_of
lines_one l m e w ls f k =
    rw (← e)
    (record {
      text = printed_as (sym (append-nil (line_text l))) w;
      lines = ls;
      faults = omega (arith, f);
      skipped = omega (arith, k);
    })

pub lines_then : {a b : List Line} {p q r : Pen} {c d e : Counts} → PrintedLines a p c q d → PrintedLines b q d r e → PrintedLines (a ++ b) p c r e
lines_then {a} {b} f g =
    record {
      text = printed_as (sym (lines_append a b)) (printed_then f.text g.text);
      lines = omega (arith, f.lines, g.lines, length-append a b);
      faults = omega (arith, f.faults, g.faults, count_append faulty a b);
      skipped = omega (arith, f.skipped, g.skipped, count_append skips a b);
    }

-- the same lines, put in another way
pub lines_as : {a b : List Line} {p q : Pen} {c d : Counts} → a ≡ b → PrintedLines a p c q d → PrintedLines b p c q d
lines_as e f = rw e at f

-- counts are their three numbers
abbrev pub counts : ℕ → ℕ → ℕ → Counts
counts ls f k = record { lines = ls; faults = f; skipped = k }

pub same_counts : (x y : Counts) → x.lines ≡ y.lines → x.faults ≡ y.faults → x.skipped ≡ y.skipped → x ≡ y
same_counts x y ls f k =
    ap (λ (n : ℕ). counts n x.faults x.skipped) ls
    ∙ ap (λ (n : ℕ). counts y.lines n x.skipped) f
    ∙ ap (counts y.lines y.faults) k

-- the counts of no lines
pub counts_none : {c : Counts} → (c.lines ≡ 0) × ((c.faults ≡ 0) × (c.skipped ≡ 0)) → c ≡ counts 0 0 0
counts_none z = same_counts _ _ z.0 z.1.0 z.1.1

-- what is left of the same lines, printed from the same place and counted from the same counts: where the pen stands, the bytes of
-- its buffer, which buffer that is, and the counts
pub same_lines : {ls : List Line} {p q r : Pen} {c d e : Counts} → PrintedLines ls p c q d → PrintedLines ls p c r e
    → (q.at ≡ r.at) × (q.out.now ≡ r.out.now) × (q.out.ghost_name ≡ r.out.ghost_name) × (d ≡ e)
same_lines f g = (
  f.text.written.end ∙ sym g.text.written.end,
  f.text.written.now ∙ sym g.text.written.now,
  f.text.same_buffer ∙ sym g.text.same_buffer,
  same_counts _ _ (f.lines ∙ sym g.lines) (f.faults ∙ sym g.faults) (f.skipped ∙ sym g.skipped),
)

-- ---- room
pub room_next : {a : List Line} {p q : Pen} {c d : Counts} (k : ℕ) → Room p c (length a + k) → PrintedLines a p c q d → Room q d k
room_next {a} k r f =
    record {
      at = omega (arith, r.at, f.text.written.end, lines_most a);
      lines = omega (arith, r.lines, f.lines);
      faults = omega (arith, r.faults, f.faults, count_most faulty faulty_most a);
      skipped = omega (arith, r.skipped, f.skipped, count_most skips skips_most a);
    }

pub room_less : {p : Pen} {c : Counts} (k n : ℕ) → k ≤ n → Room p c n → Room p c k
room_less k n h r =
    record { at = omega (arith, r.at); lines = omega (arith, r.lines); faults = omega (arith, r.faults); skipped = omega (arith, r.skipped) }

-- a pen with which nothing is printed but a first line has room for as many lines as a record has bytes
pub first_room : (p : Pen) (k : ℕ) → p.at ≤ 2 ^ 16 → k ≤ 65536 → Room p (counts 0 0 0) k
first_room p k small few = record { at = omega arith; lines = omega arith; faults = omega arith; skipped = omega arith }

-- `paragraph::print_block`: the lines that are printed, and those of the intervals that are left, make up the block's.
use mathlib.Core.Path.{◌≡◌, sym, ap, ◌∙◌}
use mathlib.Core.Bool.{Bool}
use mathlib.Core.List.{List, [], ◌∷◌, ◌++◌, append_assoc, append-nil}
use Prim.Native.Nat.{ℕ, ◌+◌, ◌-◌, ◌<◌, ◌≤◌}
use native.Mathlib.Nat.{zero-add, one-mul}
use native.Mathlib.Omega.{arith}
use lib.ListN.{length, take, drop}
use Rattle.words.proofs.Counted.{counted_from, counted_on}
use Rattle.words.proofs.Runs.{peel_rest}
use Rattle.interval.specs.declared.Rules.{Rules}
use Rattle.interval.specs.declared.Place.{Place}
use Rattle.interval.specs.Interval.{any_escapes}
use Rattle.judge.specs.Judge.{next_interval, Run}
use Rattle.lines.specs.declared.Line.{Line}
use Rattle.writing.specs.declared.Pen.{Pen}
use Rattle.sheet.specs.declared.Counts.{Counts}
use Rattle.lines.specs.Lines.{line_of}
use Rattle.sheet.specs.Sheet.{PrintedLines, Room}
use Rattle.sheet.proofs.SheetLaws.{lines_none, lines_then, lines_as, room_next}
use Rattle.paragraph.specs.Paragraph.{lines_in}
use Rattle.paragraph.proofs.ParagraphLaws.{interval_turn, own_line, intervals_none}
use Rattle.paragraph.proofs.print_block.Invariants.{Going}
use Rattle.paragraph.proofs.print_block.Goals as goal

begins : {r : Rules} {k : Bool} {p : Place} {s : List ℕ} (o : Pen) (a : Counts) → Run r 1 p s → Room o a r.intervals → k ≡ any_escapes r.escape r.size r.intervals s
    → Going r k p s o a o a p 0 r.intervals 0
unfolding lines_in
begins o a run room e =
    record {
      from = zero-add _ ∙ sym (one-mul _) ∙ run.whole;
      places = rw one-mul at run.intervals;
      space = room;
      done = [];
      printed = lines_none o a;
      all = rw e;
    }

module _ {r : Rules} {k : Bool} {p : Place} {s : List ℕ} {o : Pen} {a : Counts} {q : Pen} {b : Counts} {here : Place} {number left i : ℕ}
    (g : Going r k p s o a q b here number left i) (h : 0 < left) where
  turn : {there : Place} {x : Pen} {c : Counts} → PrintedLines (line_of r k number here (take (i + (r.size + 8) - i) (drop i s)) ∷ []) q b x c
      → there ≡ next_interval here → Going r k p s o a x c there (number + 1) (left - 1) (i + (r.size + 8))
  turn w e =
      let same : i + (r.size + 8) - i ≡ r.size + 8 = omega arith in
      let line = line_of r k number here (drop i s) in
      let made = lines_as (ap (λ (n : ℕ). line_of r k number here (take n (drop i s)) ∷ []) same ∙ ap (λ (l : Line). l ∷ []) (own_line r k number here (drop i s))) w in
      let down : 1 + (left - 1) ≡ left = omega arith in
      rw e
      (record {
        from = peel_rest left i (r.size + 8) (length s) h g.from;
        places = omega (arith, g.places);
        space = room_next {a = line ∷ []} (left - 1) (rw down g.space) made;
        done = g.done ++ (line ∷ []);
        printed = lines_then g.printed made;
        all = append_assoc g.done (line ∷ []) _ ∙ ap (λ (ls : List Line). g.done ++ ls) (interval_turn r k left i number here s h) ∙ g.all;
      })

ends : {r : Rules} {k : Bool} {p : Place} {s : List ℕ} {o : Pen} {a : Counts} {q : Pen} {b : Counts} {here : Place} {number left i : ℕ}
    → Going r k p s o a q b here number left i → left ≤ 0 → PrintedLines (lines_in r p s) o a q b
ends {r} {k} {s = s} {here = here} {number} {left} {i} g h =
    lines_as (sym (append-nil g.done) ∙ ap (λ (ls : List Line). g.done ++ ls) (sym (intervals_none r k left number here (drop i s) h)) ∙ g.all) g.printed

pub loop-k-init : goal.loop-k-init
loop-k-init c =
    counted_from (Going c.args.r _ c.args.p c.args.s.now _ _ _ _ _ 0) c.args.r.intervals _
    (begins _ _ c.requires.run c.requires.room c.any_escapes-skipped.ensures)

pub loop-k-preserved : goal.loop-k-preserved
loop-k-preserved c =
    counted_on (Going c.args.r _ c.args.p c.args.s.now _ _ _ _ _ (c.loop-k.k + 1)) c.args.r.intervals _ c.loop-k.k c.loop-k-test.true
    (turn c.loop-k.invariant (omega arith) c.print_interval.ensures c.next_interval-here.ensures)

pub returns : goal.returns
returns c = ends c.loop-k.invariant (omega arith)

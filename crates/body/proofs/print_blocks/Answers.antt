-- `body::print_blocks`: the lines that are printed, and those of the blocks that are left, make up all of them.
use mathlib.Core.Path.{◌≡◌, refl, sym, ap, ◌∙◌}
use mathlib.Core.List.{List, [], ◌++◌, append_assoc, append-nil}
use Prim.Native.Nat.{ℕ, ◌+◌, ◌-◌, ◌*◌, ◌<◌, ◌≤◌, zero-le}
use native.Mathlib.Nat.{zero-add}
use native.Mathlib.Omega.{arith}
use lib.ListN.{length, take, drop}
use Rattle.words.proofs.Parts.{part_at}
use Rattle.words.proofs.Counted.{counted_from, counted_on}
use Rattle.words.proofs.Runs.{peel_rest}
use Rattle.interval.specs.declared.Rules.{Rules}
use Rattle.interval.specs.declared.Place.{Place}
use Rattle.judge.specs.Judge.{next_block, Run}
use Rattle.judge.proofs.BlockLaws.{first_within, rest_run}
use Rattle.lines.specs.declared.Line.{Line}
use Rattle.writing.specs.declared.Pen.{Pen}
use Rattle.sheet.specs.declared.Counts.{Counts}
use Rattle.sheet.specs.Sheet.{PrintedLines, Room}
use Rattle.sheet.proofs.SheetLaws.{lines_none, lines_then, lines_as, room_next, room_less}
use Rattle.paragraph.specs.Paragraph.{lines_in}
use Rattle.paragraph.proofs.ParagraphLaws.{own_block_lines, block_length}
use Rattle.body.specs.Body.{block_lines}
use Rattle.body.proofs.BlockLaws.{block_turn, blocks_none}
use Rattle.body.proofs.print_blocks.Invariants.{Going}
use Rattle.body.proofs.print_blocks.Goals as goal

begins : {r : Rules} {count : ℕ} {p : Place} {s : List ℕ} (o : Pen) (a : Counts) → Run r count p s → Room o a (count * r.intervals)
    → Going r count p s o a o a p count 0
begins o a run room = record { inside = zero-le; run = run; space = room; done = []; printed = lines_none o a; all = refl }

module _ {r : Rules} {count : ℕ} {p : Place} {s : List ℕ} {o : Pen} {a : Counts} {q : Pen} {b : Counts} {here : Place} {left i : ℕ}
    (g : Going r count p s o a q b here left i) (h : 0 < left) where
  within : i + r.intervals * (r.size + 8) ≤ length s
  within = first_within s i g.run h g.inside

  -- the lines of the first block, and then those of the others
  apiece : r.intervals + (left - 1) * r.intervals ≡ left * r.intervals
  apiece = omega (arith, peel_rest left 0 r.intervals (left * r.intervals) h (zero-add _))

  one : Room q b r.intervals
  one = room_less r.intervals (left * r.intervals) (omega (arith, apiece)) g.space

  turn : {there : Place} {x : Pen} {c : Counts} → PrintedLines (lines_in r here (take (i + r.intervals * (r.size + 8) - i) (drop i s))) q b x c
      → there ≡ next_block r.intervals here → Going r count p s o a x c there (left - 1) (i + r.intervals * (r.size + 8))
  turn {x = x} {c} w e =
      let lines = lines_in r here (drop i s) in
      let made = lines_as (ap (lines_in r here) (part_at i _ s) ∙ own_block_lines r here (drop i s)) w in
      let space : Room q b (length lines + (left - 1) * r.intervals) = rw (block_length r here (drop i s), apiece) g.space in
      rw e
      (record {
        inside = within;
        run = rest_run s i g.run h;
        space = room_next {a = lines} ((left - 1) * r.intervals) space made;
        done = g.done ++ lines;
        printed = lines_then g.printed made;
        all = append_assoc g.done lines _ ∙ ap (λ (ls : List Line). g.done ++ ls) (block_turn r left i here s h) ∙ g.all;
      })

ends : {r : Rules} {count : ℕ} {p : Place} {s : List ℕ} {o : Pen} {a : Counts} {q : Pen} {b : Counts} {here : Place} {left i : ℕ}
    → Going r count p s o a q b here left i → left ≤ 0 → PrintedLines (block_lines r count p s) o a q b
ends {r} {s = s} {here = here} {left} {i} g h =
    lines_as (sym (append-nil g.done) ∙ ap (λ (ls : List Line). g.done ++ ls) (sym (blocks_none r left here (drop i s) h)) ∙ g.all) g.printed

pub loop-k-init : goal.loop-k-init
loop-k-init c =
    counted_from (Going c.args.r c.args.count c.args.p c.args.s.now _ _ _ _ _) c.args.count _ (begins _ _ c.requires.run c.requires.room)

pub print_block-requires-clause-room : goal.print_block-requires-clause-room
print_block-requires-clause-room c = one c.loop-k.invariant (omega arith)

pub loop-k-preserved : goal.loop-k-preserved
loop-k-preserved c =
    counted_on (Going c.args.r c.args.count c.args.p c.args.s.now _ _ _ _ _) c.args.count _ c.loop-k.k c.loop-k-test.true
    (turn c.loop-k.invariant (omega arith) c.print_block.ensures c.next_block-here.ensures)

pub returns : goal.returns
returns c = ends c.loop-k.invariant (omega arith)

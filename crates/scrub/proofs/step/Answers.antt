-- `scrub::step`: what has been found, with the blocks that are left, gives what all of them give.
use mathlib.Core.Path.{◌≡◌, sym, ap, ◌∙◌}
use mathlib.Core.Bool.{Bool, not}
use mathlib.Core.List.{List}
use Prim.Native.Nat.{ℕ, ◌+◌, ◌*◌, ◌-◌, ◌^◌, ◌≤◌, ◌<◌}
use native.Mathlib.Omega.{arith}
use lib.ListN.{length, take, drop}
use Rattle.words.proofs.BigEndian.{part_length}
use Rattle.words.proofs.Parts.{part_at}
use Rattle.answer.specs.Answer.{is_good}
use Rattle.segment.specs.declared.Description.{Description}
use Rattle.segment.specs.Segment.{IsSegment, stored_of, length_of}
use Rattle.command.specs.declared.Command.{Command}
use Rattle.interval.specs.declared.Rules.{Rules}
use Rattle.judge.specs.Judge.{judge_block}
use Rattle.sides.specs.declared.Side.TheVariants.{Stored}
use Rattle.rules.specs.Rules.{rules_of}
use Rattle.rules.specs.Intervals.{place_at}
use Rattle.rules.specs.ReadAll.{read_all}
use Rattle.scrub.specs.Scrub.{faulty_at, covered_of}
use Rattle.scrub.proofs.Judging.{fault_cut, block_few, block_within}
use Rattle.scrub.proofs.Laws.{covered_most, stepped_plain, turn, ended}
use Rattle.scrub.proofs.step.Goals as goal

-- the block that a turn looks at lies in the segment
record Here (d : Description) (s : List ℕ) (size at : ℕ) : Type 0 where
  inside : at < d.count
  few : at * size + size ≤ 65536 * 4160
  within : at * size + size ≤ length s
  most : d.count ≤ 65536
  end : d.first + d.count ≤ 2 ^ 63

here_is : (d : Description) (s : List ℕ) (place blocks judged : ℕ) {count size : ℕ} → IsSegment d → length_of d ≡ length s → place ≤ d.count
    → count ≡ covered_of d place blocks → size ≡ stored_of d → judged < count → Here d s size (place + judged)
here_is d s place blocks judged g long p e z h =
    let inside : place + judged < d.count = omega (arith, covered_most d place blocks p) in
    rw z
    (record {
      inside = inside;
      few = block_few d g (place + judged) inside;
      within = block_within d g (place + judged) inside s long;
      most = g.count;
      end = g.end;
    })

-- what is cut out for it
cut : (s : List ℕ) (i : ℕ) {size stored : ℕ} → size ≡ stored → i + size ≤ length s → length (take (i + size - i) (drop i s)) ≡ stored
cut s i {size} e h = part_length i size s h ∙ e

looked : (d : Description) (s : List ℕ) (at : ℕ) {size : ℕ} {r : Rules} {b : Bool} → IsSegment d → (d.kind ≡ 0 → ⊥) → size ≡ stored_of d → r ≡ rules_of Stored d (read_all d)
    → b ≡ not (is_good (judge_block r (place_at d (read_all d) at 0) (take (at * size + size - at * size) (drop (at * size) s)))) → b ≡ faulty_at d s at
looked d s at {size} g n z er e =
    e ∙ rw (part_at (at * size) size s, er, z) (sym (fault_cut d g s at n))

listed : (d : Description) {c : Command} {r : Rules} → c ≡ read_all d → r ≡ rules_of Stored d c → r ≡ rules_of Stored d (read_all d)
listed d ec er = er ∙ ap (rules_of Stored d) ec

pub returns-then-d-eq0-clause-stepped : goal.returns-then-d-eq0-clause-stepped
returns-then-d-eq0-clause-stepped c = stepped_plain _ _ c.if-d-eq0.true c.covered-count.ensures

pub overflow_add-at : goal.overflow_add-at
overflow_add-at c = omega (arith, (here_is c.args.d.numbers c.args.s.now c.args.place c.args.blocks c.loop-judged.judged c.args.d.is c.requires.0 c.requires.1 c.covered-count.ensures c.stored-size.ensures c.loop-judged-test.true).inside, (here_is c.args.d.numbers c.args.s.now c.args.place c.args.blocks c.loop-judged.judged c.args.d.is c.requires.0 c.requires.1 c.covered-count.ensures c.stored-size.ensures c.loop-judged-test.true).most)

pub overflow_mul-i : goal.overflow_mul-i
overflow_mul-i c = omega (arith, (here_is c.args.d.numbers c.args.s.now c.args.place c.args.blocks c.loop-judged.judged c.args.d.is c.requires.0 c.requires.1 c.covered-count.ensures c.stored-size.ensures c.loop-judged-test.true).few)

pub overflow_add-i : goal.overflow_add-i
overflow_add-i c = omega (arith, (here_is c.args.d.numbers c.args.s.now c.args.place c.args.blocks c.loop-judged.judged c.args.d.is c.requires.0 c.requires.1 c.covered-count.ensures c.stored-size.ensures c.loop-judged-test.true).few)

pub slice_bounds-faulty_block-end : goal.slice_bounds-faulty_block-end
slice_bounds-faulty_block-end c = (here_is c.args.d.numbers c.args.s.now c.args.place c.args.blocks c.loop-judged.judged c.args.d.is c.requires.0 c.requires.1 c.covered-count.ensures c.stored-size.ensures c.loop-judged-test.true).within

pub faulty_block-faulty-requires : goal.faulty_block-faulty-requires
faulty_block-faulty-requires c = ((here_is c.args.d.numbers c.args.s.now c.args.place c.args.blocks c.loop-judged.judged c.args.d.is c.requires.0 c.requires.1 c.covered-count.ensures c.stored-size.ensures c.loop-judged-test.true).inside, cut _ _ c.stored-size.ensures (here_is c.args.d.numbers c.args.s.now c.args.place c.args.blocks c.loop-judged.judged c.args.d.is c.requires.0 c.requires.1 c.covered-count.ensures c.stored-size.ensures c.loop-judged-test.true).within)

pub overflow_add-d : goal.overflow_add-d
overflow_add-d c = omega (arith, (here_is c.args.d.numbers c.args.s.now c.args.place c.args.blocks c.loop-judged.judged c.args.d.is c.requires.0 c.requires.1 c.covered-count.ensures c.stored-size.ensures c.loop-judged-test.true).inside, (here_is c.args.d.numbers c.args.s.now c.args.place c.args.blocks c.loop-judged.judged c.args.d.is c.requires.0 c.requires.1 c.covered-count.ensures c.stored-size.ensures c.loop-judged-test.true).end)

pub with_block-so_far-requires : goal.with_block-so_far-requires
with_block-so_far-requires c =
    omega (arith, c.loop-judged.invariant.most, c.loop-judged-test.true, (here_is c.args.d.numbers c.args.s.now c.args.place c.args.blocks c.loop-judged.judged c.args.d.is c.requires.0 c.requires.1 c.covered-count.ensures c.stored-size.ensures c.loop-judged-test.true).inside, (here_is c.args.d.numbers c.args.s.now c.args.place c.args.blocks c.loop-judged.judged c.args.d.is c.requires.0 c.requires.1 c.covered-count.ensures c.stored-size.ensures c.loop-judged-test.true).most)

pub loop-judged-preserved : goal.loop-judged-preserved
loop-judged-preserved c =
    rw c.with_block-so_far.ensures
    (turn c.loop-judged.invariant c.loop-judged-test.true _
    (looked _ _ _ c.args.d.is c.if-d-eq0.false c.stored-size.ensures (listed _ c.sixteen-read.ensures c.rules.ensures) c.faulty_block-faulty.ensures))

pub returns-clause-stepped : goal.returns-clause-stepped
returns-clause-stepped c = ended c.loop-judged.invariant (omega arith) c.covered-count.ensures

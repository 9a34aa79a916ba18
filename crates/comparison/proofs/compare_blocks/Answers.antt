-- `comparison::compare_blocks`: the blocks that are left give, from the address reached, what all of them give.
use mathlib.Core.Path.{◌≡◌, refl, sym, ap, ap₂, ◌∙◌}
use mathlib.Core.Bool.{Bool, true, false, not, cond}
use mathlib.Core.List.{List}
use Prim.Native.Nat.{ℕ, ◌+◌, ◌-◌, ◌<◌, ◌≤◌}
use native.Mathlib.Omega.{arith}
use borrow.Author.Tests.{not-true, not-false}
use lib.ListN.{length, take, drop, length-drop}
use lib.Seq.{drop-drop}
use Rattle.words.proofs.Parts.{part_at}
use Rattle.words.proofs.Runs.{peel_within, peel_rest}
use Rattle.blocks.proofs.Pieces.{of_part}
use Rattle.answer.specs.Answer as answers
use Rattle.comparison.specs.declared.Cut.{Cut}
use Rattle.comparison.specs.Comparison.{same}
use Rattle.comparison.specs.Inner.{parts_of}
use Rattle.comparison.proofs.Parts.{parts_own, block_turn, blocks_end}
use Rattle.comparison.proofs.compare_blocks.Invariants.{block, each, all, Going}
use Rattle.comparison.proofs.compare_blocks.Goals as goal

module _ {k : Cut} {address count : ℕ} {stored sent : List ℕ} {left i j : ℕ} (g : Going k address count stored sent left i j) (h : 0 < left) where
  within : i + block k ≤ length stored
  within = peel_within left i (block k) (length stored) h g.from

  room : j + each k ≤ length sent
  room = peel_within left j (each k) (length sent) h g.to

  module _ {b : Bool} (e : b ≡ same (parts_of k k.pieces (take (i + block k - i) (drop i stored))) (take (j + each k - j) (drop j sent))) where
    own : parts_of k k.pieces (take (i + block k - i) (drop i stored)) ≡ parts_of k k.pieces (drop i stored)
    own = of_part (parts_of k k.pieces) (block k) i stored _ (λ l r. parts_own k g.apart k.pieces l r) within refl

    turned : cond b (all k (address + (count - left) + 1) (left - 1) (drop (i + block k) stored) (drop (j + each k) sent)) (answers.differs (address + (count - left)))
        ≡ all k address count stored sent
    turned =
        rw (← drop-drop (block k) i stored, ← drop-drop (each k) j sent)
        (sym (block_turn k left (address + (count - left)) (drop i stored) (drop j sent) b h g.apart (rw length-drop (omega (arith, within))) (e ∙ ap₂ same own (part_at j (each k) sent)))
        ∙ g.rest)

    stop : not b ≡ true → answers.differs (address + (count - left)) ≡ all k address count stored sent
    stop n = rw (not-true b n) at turned

    turn : not b ≡ false → Going k address count stored sent (left - 1) (i + block k) (j + each k)
    turn n =
        let on : address + (count - (left - 1)) ≡ address + (count - left) + 1 = omega (arith, h, g.fewer) in
        record {
          from = peel_rest left i (block k) (length stored) h g.from;
          to = peel_rest left j (each k) (length sent) h g.to;
          apart = g.apart;
          fewer = omega (arith, g.fewer);
          rest = rw on (rw (not-false b n) at turned);
        }

onward : {k : Cut} {address count : ℕ} {stored sent : List ℕ} {left i j left' i' j' : ℕ} → left' ≡ left → i' ≡ i → j' ≡ j → Going k address count stored sent left i j
    → Going k address count stored sent left' i' j'
onward e f f' g = rw (e, f, f') g

pub returns-then-not-same_block : goal.returns-then-not-same_block
returns-then-not-same_block c =
    let l = c.loop-i in
    let done : l.i ≡ c.args.count - (c.args.count - l.i) = omega arith in
    ap (λ n. answers.differs (c.args.address + n)) done
    ∙ stop l.invariant (omega arith) c.same_block.ensures (ap not c.if-not-same_block.true)

pub loop-i-preserved : goal.loop-i-preserved
loop-i-preserved c =
    onward (omega arith) (omega arith) (omega arith)
    (turn c.loop-i.invariant (omega arith) c.same_block.ensures (ap not c.if-not-same_block.false))

pub returns : goal.returns
returns c = blocks_end _ (c.args.count - c.loop-i.i) _ _ _ (omega arith) ∙ c.loop-i.invariant.rest

-- `comparison::same_block`: the pieces that are left are the same exactly when, behind those seen, all are.
use mathlib.Core.Path.{◌≡◌, sym, ap, ap₂, ◌∙◌}
use mathlib.Core.Bool.{Bool, true, false, not, ◌&&◌}
use mathlib.Core.List.{List}
use Prim.Native.Nat.{ℕ, ◌+◌, ◌-◌, ◌<◌, ◌≤◌}
use native.Mathlib.Omega.{arith}
use borrow.Author.Tests.{not-true, not-false}
use lib.ListN.{length, take, drop, length-drop, drop_of_length-le}
use lib.Seq.{drop-drop}
use Rattle.words.proofs.Parts.{part_at}
use Rattle.words.proofs.Runs.{peel_within, peel_rest, peel_end}
use Rattle.comparison.specs.declared.Cut.{Cut}
use Rattle.comparison.specs.Comparison.{same}
use Rattle.comparison.specs.Inner.{parts_of}
use Rattle.comparison.proofs.Parts.{piece_turn, pieces_end}
use Rattle.comparison.proofs.same_block.Invariants.{Going}
use Rattle.comparison.proofs.same_block.Goals as goal

ends : {k : Cut} {stored sent : List ℕ} {left i j : ℕ} → Going k stored sent left i j → left ≤ 0 → true ≡ same (parts_of k k.pieces stored) sent
ends {k} {stored} {sent} {left} {i} {j} g h =
    sym (pieces_end k left (drop i stored) h)
    ∙ ap (same (parts_of k left (drop i stored))) (sym (drop_of_length-le sent (peel_end left j k.size (length sent) h g.to))) ∙ g.rest

module _ {k : Cut} {stored sent : List ℕ} {left i j : ℕ} (g : Going k stored sent left i j) (h : 0 < left) where
  within : i + k.stride ≤ length stored
  within = peel_within left i k.stride (length stored) h g.from

  room : j + k.size ≤ length sent
  room = peel_within left j k.size (length sent) h g.to

  module _ {b : Bool} (e : b ≡ same (take (i + k.size - i) (drop i stored)) (take (j + k.size - j) (drop j sent))) where
    turned : (b && same (parts_of k (left - 1) (drop (i + k.stride) stored)) (drop (j + k.size) sent)) ≡ same (parts_of k k.pieces stored) sent
    turned =
        rw (← drop-drop k.stride i stored, ← drop-drop k.size j sent)
        (sym (piece_turn k left (drop i stored) (drop j sent) b h (rw length-drop (omega (arith, within, g.apart))) (e ∙ ap₂ same (part_at i k.size stored) (part_at j k.size sent)))
        ∙ g.rest)

    stop : not b ≡ true → false ≡ same (parts_of k k.pieces stored) sent
    stop n = rw (not-true b n) at turned

    turn : not b ≡ false → Going k stored sent (left - 1) (i + k.stride) (j + k.size)
    turn n =
        record {
          from = peel_rest left i k.stride (length stored) h g.from;
          to = peel_rest left j k.size (length sent) h g.to;
          apart = g.apart;
          rest = rw (not-false b n) at turned;
        }

onward : {k : Cut} {stored sent : List ℕ} {left i j left' i' j' : ℕ} → left' ≡ left → i' ≡ i → j' ≡ j → Going k stored sent left i j → Going k stored sent left' i' j'
onward e f f' g = rw (e, f, f') g

pub returns-then-not-same : goal.returns-then-not-same
returns-then-not-same c =
    stop c.loop-i.invariant (omega arith) c.same.ensures (ap not c.if-not-same.true)

pub loop-i-preserved : goal.loop-i-preserved
loop-i-preserved c =
    onward (omega arith) (omega arith) (omega arith)
    (turn c.loop-i.invariant (omega arith) c.same.ensures (ap not c.if-not-same.false))

pub returns : goal.returns
returns c = ends c.loop-i.invariant (omega arith)

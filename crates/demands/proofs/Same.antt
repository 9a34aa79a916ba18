-- The blocks of a transfer against those sent: what its comparison says of them.
-- Assumes nothing.
use Prim.Native.Nat.{ℕ, ◌<◌}
use mathlib.Core.Path.{◌≡◌, refl, sym, ap, ◌∙◌}
use mathlib.Core.Logic.{◌↔◌}
use mathlib.Core.Bool.{Bool, true, false, cond, true≢false}
use Rattle.answer.specs.Answer.{number_of, sense_of, address_of, place_of, is_good, Answer}
use Rattle.answer.specs.Answer as answers
use Rattle.segment.specs.declared.Description.{Description}
use Rattle.command.specs.declared.Command.{Command}
use Rattle.command.specs.Compares.{compares}
use Rattle.comparison.specs.Comparison.{compare_blocks}
use Rattle.comparison.proofs.FirstLaws.{blocks_same, blocks_differ}
use Rattle.refusal.specs.Refusal.{each_of}
use Rattle.sides.specs.declared.Side.TheVariants.{Sent, Stored}
use Rattle.transfer.specs.Transfer.{blocks_of, handed, compared}
use Rattle.execute.specs.Lent.{Lent}
use Rattle.execute.specs.Execute.{under_check}
use Rattle.demands.specs.Different.{SameBlock, AllSame, FirstDifferent}

module _ (d : Description) (c : Command) (l : Lent) where
  abbrev blocks : Answer
  blocks = compare_blocks (each_of d c) c.length c.address (handed d c (blocks_of d c l.segment)) l.buffer

  pub all_same : (compared d c (under_check Sent d c l) (under_check Stored d c l) ≡ answers.good) ↔ AllSame d c l
  unfolding compared
  all_same = by (compares c) refl
    where
      each : (blocks ≡ answers.good) ↔ ((j : ℕ) → j < c.length → SameBlock d c l j)
      each = blocks_same (each_of d c) c.length c.address (handed d c (blocks_of d c l.segment)) l.buffer

      by : (b : Bool) → compares c ≡ b → (cond b blocks answers.good ≡ answers.good) ↔ AllSame d c l
      by true on = (λ e n. each.0 e, λ f. each.1 (f on))
      by false off = (λ e n. absurd (true≢false (sym n ∙ off)), λ f. refl)

  pub first_different : is_good (compared d c (under_check Sent d c l) (under_check Stored d c l)) ≡ false
      → (compares c ≡ true) × FirstDifferent d c l (compared d c (under_check Sent d c l) (under_check Stored d c l))
  unfolding compared
  first_different = by (compares c) refl
    where
      by : (b : Bool) → compares c ≡ b → is_good (cond b blocks answers.good) ≡ false → (compares c ≡ true) × FirstDifferent d c l (cond b blocks answers.good)
      by true on w =
          let f = blocks_differ (each_of d c) c.length c.address (handed d c (blocks_of d c l.segment)) l.buffer w in (
            on,
            record {
              block = f.at;
              within = f.within;
              earlier = f.before;
              here = f.here;
              number = ap number_of f.named;
              sense = ap sense_of f.named;
              address = ap address_of f.named;
              place = ap place_of f.named;
            },
          )
      by false off w = absurd (true≢false w)

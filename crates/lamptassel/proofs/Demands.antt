-- Of the exported functions: any number but 0 leaves every lent byte as it was; what a scrub hands back.
-- Assumes nothing.
use mathlib.Core.Path.{◌≡◌, ap, ◌∙◌}
use mathlib.Core.Bool.{false}
use mathlib.Core.List.{List}
use Prim.Native.Nat.{ℕ, ◌+◌}
use borrow.Author.Tests.{ne_eqb}
use Rattle.answer.specs.Answer.{Answer, answer_of, number_of, is_good}
use Rattle.answer.specs.Outcome.{leaving}
use Rattle.answer.proofs.Demands.{good_is_zero, refused_leaves}
use Rattle.segment.specs.declared.Description.{Description}
use Rattle.execute.specs.Lent.{Lent}
use Rattle.execute.specs.Execute.{executed}
use Rattle.demands.proofs.Demands.{refused_leaves_all}
use Rattle.filling.specs.Fresh.{filled}
use Rattle.scrub.specs.Scrub.{scrubbed}
use Rattle.series.specs.Series.{Total}
use Rattle.series.proofs.Demands.{refused_hands_back, count_is_the_distance}
use Rattle.stripe.specs.Stripe.{made, rebuilt, corrected}
use Rattle.guards.specs.Guards.{guards}
use Rattle.lamptassel.specs.Answers.{Executed, Answered, HandedBack}

-- ---- "Any answer but 0 changes no lent byte, save a place lent for the answer's own numbers."

refused : (a : Answer) (r : ℕ) → r ≡ number_of a → (r ≡ 0 → ⊥) → is_good a ≡ false
refused a r e n = good_is_zero a ∙ rw (← e) (ne_eqb r 0 n)

-- a refused READ leaves its buffer, a refused WRITE its segment
pub execute_refused_leaves : (d : Description) (command : List ℕ) (l : Lent) (r a p : ℕ) (left : Lent)
    → Executed (executed d command l) r a p left → (r ≡ 0 → ⊥) → left ≡ l
execute_refused_leaves d command l r a p left x n =
    x.left ∙ refused_leaves_all d command l (refused (executed d command l).answer r x.answer n)

leaves : (a : Answer) (old new : List ℕ) (r : ℕ) (l : List ℕ) → Answered (leaving a old new) r l → (r ≡ 0 → ⊥) → l ≡ old
leaves a old new r l x n = x.left ∙ refused_leaves a old new (refused a r x.answer n)

pub fill_refused_leaves : (d : Description) (segment : List ℕ) (r : ℕ) (l : List ℕ) → Answered (filled d segment) r l → (r ≡ 0 → ⊥) → l ≡ segment
unfolding filled
fill_refused_leaves d segment = leaves _ segment _

pub parity_refused_leaves : (d : Description) (k : ℕ) (members out : List ℕ) (r : ℕ) (l : List ℕ) → Answered (made d k members out) r l → (r ≡ 0 → ⊥) → l ≡ out
unfolding made
parity_refused_leaves d k members out = leaves _ out _

pub rebuild_refused_leaves : (d : Description) (k lost : ℕ) (parts out : List ℕ) (r : ℕ) (l : List ℕ) → Answered (rebuilt d k lost parts out) r l → (r ≡ 0 → ⊥) → l ≡ out
unfolding rebuilt
rebuild_refused_leaves d k lost parts out = leaves _ out _

pub correct_refused_leaves : (d : Description) (old new parity : List ℕ) (r : ℕ) (l : List ℕ) → Answered (corrected d old new parity) r l → (r ≡ 0 → ⊥) → l ≡ parity
unfolding corrected
correct_refused_leaves d old new parity = leaves _ parity _

pub guards_refused_leaves : (s : List ℕ) (size : ℕ) (out : List ℕ) (r : ℕ) (l : List ℕ) → Answered (guards s size out) r l → (r ≡ 0 → ⊥) → l ≡ out
unfolding guards
guards_refused_leaves s size out = leaves _ out _

-- ---- a scrub
module _ (d : Description) (segment : List ℕ) (place blocks r n j f a : ℕ) (x : HandedBack (scrubbed d segment place blocks) r n j f a) where
  -- "A refused call hands back the place it was given and zeros."
  pub scrub_refused_hands_back : (r ≡ 0 → ⊥) → (n ≡ place) × (j ≡ 0) × (f ≡ 0) × (a ≡ 0)
  scrub_refused_hands_back z =
      let none = refused_hands_back d segment place blocks (refused (scrubbed d segment place blocks).answer r x.answer z) in (
        x.next ∙ ap (λ (t : Total). t.next) none,
        x.judged ∙ ap (λ (t : Total). t.judged) none,
        x.faults ∙ ap (λ (t : Total). t.faults) none,
        x.first ∙ ap (λ (t : Total). t.first) none,
      )

  -- "The count of blocks judged equals the distance moved"
  pub scrub_count_is_the_distance : n ≡ place + j
  scrub_count_is_the_distance = rw (x.next, x.judged) (count_is_the_distance d segment place blocks)

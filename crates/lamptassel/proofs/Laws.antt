-- From what a crate below promises of an answer to the numbers that are handed over.
-- Assumes nothing.
use mathlib.Core.Path.{◌≡◌, ap, ◌∙◌}
use mathlib.Core.List.{List}
use Prim.Native.Nat.{ℕ}
use Rattle.answer.specs.Answer.{Answer, answer_of, number_of, address_of, place_of}
use Rattle.answer.specs.Outcome.{Outcome, outcome}
use Rattle.segment.specs.declared.Description.{Description}
use Rattle.execute.specs.Lent.{Lent}
use Rattle.execute.specs.Execute.{executed}
use Rattle.format.specs.Choice.{Choice, kind_of}
use Rattle.filling.specs.Fresh.{filled}
use Rattle.scrub.specs.declared.Scrubbed.{Scrubbed}
use Rattle.scrub.specs.Scrub.{scrubbed}
use Rattle.stripe.specs.Stripe.{made, rebuilt, corrected}
use Rattle.lamptassel.specs.Answers.{Executed, Chosen, Answered, HandedBack}

pub executed_told : (d d' : Description) (command : List ℕ) (l left : Lent) (x : Answer) (r a p : ℕ) → d ≡ d'
    → outcome x left ≡ executed d command l → r ≡ number_of x → a ≡ address_of x → p ≡ place_of x → Executed (executed d' command l) r a p left
executed_told d d' command l left x r a p same e n at here =
    let whole : outcome x left ≡ executed d' command l = e ∙ ap (λ (y : Description). executed y command l) same in
    record {
      answer = n ∙ ap (λ (o : Outcome Lent). number_of o.answer) whole;
      address = at ∙ ap (λ (o : Outcome Lent). address_of o.answer) whole;
      place = here ∙ ap (λ (o : Outcome Lent). place_of o.answer) whole;
      left = ap (λ (o : Outcome Lent). o.left) whole;
    }

-- one list is lent
pub told : (o : Outcome (List ℕ)) (l : List ℕ) (x : Answer) (r : ℕ) → outcome x l ≡ o → r ≡ number_of x → Answered o r l
told o l x r e n = record { answer = n ∙ ap (λ (y : Outcome (List ℕ)). number_of y.answer) e; left = ap (λ (y : Outcome (List ℕ)). y.left) e }

-- and a description is handed over as numbers
described_told : (f : Description → Outcome (List ℕ)) (d d' : Description) (l : List ℕ) (x : Answer) (r : ℕ) → d ≡ d' → outcome x l ≡ f d → r ≡ number_of x
    → Answered (f d') r l
described_told f d d' l x r same e n = told (f d') l x r (e ∙ ap f same) n

pub fill_told : (d d' : Description) (segment l : List ℕ) (x : Answer) (r : ℕ) → d ≡ d' → outcome x l ≡ filled d segment → r ≡ number_of x
    → Answered (filled d' segment) r l
fill_told d d' segment = described_told (λ y. filled y segment) d d'

pub parity_told : (d d' : Description) (k : ℕ) (s out l : List ℕ) (x : Answer) (r : ℕ) → d ≡ d' → outcome x l ≡ made d k s out → r ≡ number_of x
    → Answered (made d' k s out) r l
parity_told d d' k s out = described_told (λ y. made y k s out) d d'

pub rebuild_told : (d d' : Description) (k lost : ℕ) (s out l : List ℕ) (x : Answer) (r : ℕ) → d ≡ d' → outcome x l ≡ rebuilt d k lost s out → r ≡ number_of x
    → Answered (rebuilt d' k lost s out) r l
rebuild_told d d' k lost s out = described_told (λ y. rebuilt y k lost s out) d d'

pub correct_told : (d d' : Description) (old new parity l : List ℕ) (x : Answer) (r : ℕ) → d ≡ d' → outcome x l ≡ corrected d old new parity → r ≡ number_of x
    → Answered (corrected d' old new parity) r l
correct_told d d' old new parity = described_told (λ y. corrected y old new parity) d d'

pub chosen_told : (c c' : Choice) (r t : ℕ) → c ≡ c' → r ≡ number_of (answer_of c) → t ≡ kind_of c → Chosen c' r t
chosen_told c c' r t same n k = record { answer = n ∙ ap (λ (y : Choice). number_of (answer_of y)) same; kind = k ∙ ap (λ (y : Choice). kind_of y) same }

pub scrub_told : (d d' : Description) (s : List ℕ) (place blocks : ℕ) (o : Scrubbed) (r : ℕ) → d ≡ d' → o ≡ scrubbed d s place blocks → r ≡ number_of o.answer
    → HandedBack (scrubbed d' s place blocks) r o.next o.judged o.faults o.first
scrub_told d d' s place blocks o r same e n =
    let whole : o ≡ scrubbed d' s place blocks = e ∙ ap (λ (y : Description). scrubbed y s place blocks) same in
    record {
      answer = n ∙ ap (λ (y : Scrubbed). number_of y.answer) whole;
      next = ap (λ (y : Scrubbed). y.next) whole;
      judged = ap (λ (y : Scrubbed). y.judged) whole;
      faults = ap (λ (y : Scrubbed). y.faults) whole;
      first = ap (λ (y : Scrubbed). y.first) whole;
    }

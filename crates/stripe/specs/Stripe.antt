-- "k is 1 to 16 members, laid end to end, each N × S bytes of one description of type 1 to 3. Parity is their exclusive or,
-- fields included."
use Rattle.std.specs.Prelude.{ℕ, ◌+◌, ◌*◌, Bool, not, ◌&&◌, List, eqb, leb, length}
use Rattle.answer.specs.Answer.{Answer, or_else, refused_if}
use Rattle.answer.specs.Outcome.{Outcome, leaving}
use Rattle.answer.specs.declared.Reason.TheVariants as reasons
use Rattle.segment.specs.declared.Description.{Description}
use Rattle.segment.specs.Segment.{length_of}
use Rattle.segment.specs.Rules.{description_rule}
use Rattle.parity.specs.Parity.{parity_of, rebuilt_of, corrected_of}

-- "Answers 0, 1, then 11 for type 0, k out of range, a lost number above k, or any length unfit."
unfoldable pub stripe_rules : Description → Bool → Answer
stripe_rules d shaped =
    or_else (description_rule d) (refused_if (not (not (eqb d.kind 0) && shaped)) reasons.StripeShapeBad)

-- "k is 1 to 16"
unfoldable pub in_range : ℕ → Bool
in_range k = leb 1 k && leb k 16

-- "Making parity and rebuilding write one lent buffer of N × S bytes."
unfoldable pub made : Description → ℕ → List ℕ → List ℕ → Outcome (List ℕ)
made d k s out =
    leaving
    (stripe_rules d (in_range k && (eqb (length s) (k * length_of d) && eqb (length out) (length_of d))))
    out
    (parity_of (length_of d) k s)

unfoldable pub rebuilt : Description → ℕ → ℕ → List ℕ → List ℕ → Outcome (List ℕ)
rebuilt d k lost s out =
    leaving
    (stripe_rules d (in_range k && (leb lost k && (eqb (length s) ((k + 1) * length_of d) && eqb (length out) (length_of d)))))
    out
    (rebuilt_of (length_of d) k lost s)

-- "N × S bytes each"
unfoldable pub corrected : Description → List ℕ → List ℕ → List ℕ → Outcome (List ℕ)
corrected d old new parity =
    leaving
    (stripe_rules d (eqb (length old) (length_of d) && (eqb (length new) (length_of d) && eqb (length parity) (length_of d))))
    parity
    (corrected_of old new parity)

-- Document 02, "any series of calls .., each starting where the last stopped".
use Rattle.std.specs.Prelude.{ℕ, ◌+◌, cond, List, [], ◌∷◌, eqb}
use Rattle.segment.specs.declared.Description.{Description}
use Rattle.scrub.specs.declared.Scrubbed.{Scrubbed}
use Rattle.scrub.specs.Scrub.{scrubbed}

-- what a call, or a series of calls, gives: the place that it came to, the blocks judged, how many had a fault, the address of the first
pub record Total : Type 0 where
  pub next : ℕ
  pub judged : ℕ
  pub faults : ℕ
  pub first : ℕ

abbrev pub total_of : Scrubbed → Total
total_of x = record { next = x.next; judged = x.judged; faults = x.faults; first = x.first }

-- the place that was given, and zeros
abbrev pub nothing : ℕ → Total
nothing place = record { next = place; judged = 0; faults = 0; first = 0 }

-- a call, and what those behind it give. The first fault is that of the first call with a count above 0: its address may be 0
abbrev pub followed_by : Scrubbed → Total → Total
followed_by x t =
    record {
      next = t.next;
      judged = x.judged + t.judged;
      faults = x.faults + t.faults;
      first = cond (eqb x.faults 0) t.first x.first;
    }

-- calls of these numbers of blocks, the first from a place on
unfoldable pub series_of : Description → List ℕ → ℕ → List ℕ → Total
series_of d s place [] = nothing place
series_of d s place (m ∷ ms) = followed_by (scrubbed d s place m) (series_of d s (scrubbed d s place m).next ms)

-- how many blocks they ask for together
unfoldable pub sum_of : List ℕ → ℕ
sum_of [] = 0
sum_of (m ∷ ms) = m + sum_of ms

-- When a call is good, as facts: "k is 1 to 16 members, laid end to end, each N × S bytes of one description of type 1 to 3."
use Rattle.std.specs.Prelude.{ℕ, ◌+◌, ◌*◌, ◌≤◌, ◌≡◌, List, length}
use Rattle.segment.specs.declared.Description.{Description}
use Rattle.segment.specs.Segment.{IsSegment, length_of}

-- "Making parity .. one lent buffer of N × S bytes."
pub record Making (d : Description) (k : ℕ) (s out : List ℕ) : Type 0 where
  pub segment : IsSegment d
  pub typed : 1 ≤ d.kind
  pub some : 1 ≤ k
  pub few : k ≤ 16
  pub whole : length s ≡ k * length_of d
  pub room : length out ≡ length_of d

-- "Rebuilding takes k + 1 parts, parity last, and the number of the lost one (0 to k ..)"
pub record Rebuilding (d : Description) (k lost : ℕ) (s out : List ℕ) : Type 0 where
  pub segment : IsSegment d
  pub typed : 1 ≤ d.kind
  pub some : 1 ≤ k
  pub few : k ≤ 16
  pub among : lost ≤ k
  pub whole : length s ≡ (k + 1) * length_of d
  pub room : length out ≡ length_of d

-- "Correcting takes one member's old and new bytes and changes the parity lent with them, N × S bytes each."
pub record Correcting (d : Description) (old new parity : List ℕ) : Type 0 where
  pub segment : IsSegment d
  pub typed : 1 ≤ d.kind
  pub old_whole : length old ≡ length_of d
  pub new_whole : length new ≡ length_of d
  pub room : length parity ≡ length_of d

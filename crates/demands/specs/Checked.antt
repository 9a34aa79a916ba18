-- The wrong intervals of a transfer, side by side.
use Rattle.std.specs.Prelude.{Ok, ℕ, ◌≤◌, ◌<◌, ◌≡◌, false, List}
use Rattle.answer.specs.Answer.{number_of, address_of, place_of, is_good, Answer}
use Rattle.answer.specs.Answer as answers
use Rattle.segment.specs.declared.Description.{Description}
use Rattle.segment.specs.Segment.{intervals_of}
use Rattle.segment.specs.Places.{interval_at}
use Rattle.command.specs.declared.Command.{Command}
use Rattle.interval.specs.declared.Place.{Place}
use Rattle.interval.specs.Interval.{judge_interval}
use Rattle.sides.specs.declared.Side.{Side}
use Rattle.sides.specs.declared.Side.TheVariants.{Sent, Stored}
use Rattle.sides.specs.Sides.{checked_on}
use Rattle.rules.specs.Rules.{rules_of}
use Rattle.rules.specs.Intervals.{place_at, skipped, verdict_at}
use Rattle.admission.specs.Admission.{admitted}
use Rattle.execute.specs.Lent.{Lent, lengths_of}
use Rattle.execute.specs.Execute.{under_check}

-- "Numbers 8 to 10 also give the block's address and the interval's place in the transfer"
pub record Names (p : Place) (a : Answer) : Type 0 where
  pub least : 8 ≤ number_of a
  pub most : number_of a ≤ 10
  pub address : address_of a ≡ p.address
  pub place : place_of a ≡ p.interval

-- "then intervals in order": the first wrong interval of the blocks s of a side, and the answer that names it. All before it are right, it
-- is wrong
pub record FirstWrongInterval (side : Side) (d : Description) (c : Command) (s : List ℕ) (a : Answer) : Type 0 where
  pub block : ℕ
  pub interval : ℕ
  pub block_within : block < checked_on side d c
  pub interval_within : interval < intervals_of d
  pub earlier_blocks : (j i : ℕ) → j < block → i < intervals_of d → verdict_at side d c s j i ≡ answers.good
  pub earlier_intervals : (i : ℕ) → i < interval → verdict_at side d c s block i ≡ answers.good
  pub checked : skipped side d c s block ≡ false
  pub here : judge_interval (rules_of side d c) (place_at d c block interval) (interval_at d s block interval) ≡ a
  pub wrong : is_good a ≡ false
  pub names : Names (place_at d c block interval) a

-- every interval of a side that is under check is right
abbrev pub AllRight : Side → Description → Command → Lent → Type 0
AllRight side d c l =
    (j i : ℕ) → j < checked_on side d c → i < intervals_of d → verdict_at side d c (under_check side d c l) j i ≡ answers.good

-- "the first such interval is named": of what is sent, else of what is stored
pub record FirstNamed (d : Description) (c : Command) (l : Lent) (a : Answer) : Type 0 where
  pub side : Side
  pub sent_right : side ≡ Stored → AllRight Sent d c l
  pub first : FirstWrongInterval side d c (under_check side d c l) a

-- "a transfer otherwise in order is refused for protection exactly when an interval under check is wrong": the transfer, and
-- such an interval of it
pub record WrongInterval (d : Description) (command : List ℕ) (l : Lent) : Type 0 where
  pub transfer : Command
  pub in_order : admitted d (lengths_of l) command ≡ Ok transfer
  pub side : Side
  pub block : ℕ
  pub interval : ℕ
  pub block_within : block < checked_on side d transfer
  pub interval_within : interval < intervals_of d
  pub wrong : is_good (verdict_at side d transfer (under_check side d transfer l) block interval) ≡ false

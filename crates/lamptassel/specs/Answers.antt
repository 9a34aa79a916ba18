-- "The cabinet's server is written in C; it passes numbers and byte buffers.": what each call answers and leaves behind.
use Rattle.std.specs.Prelude.{ℕ, List, ◌≡◌}
use Rattle.answer.specs.Answer.{answer_of, number_of, address_of, place_of}
use Rattle.answer.specs.Outcome.{Outcome}
use Rattle.execute.specs.Lent.{Lent}
use Rattle.format.specs.Choice.{Choice, kind_of}
use Rattle.scrub.specs.declared.Scrubbed.{Scrubbed}

-- a command's answer r, the numbers a and p in the places lent for them, and what is left of segment and buffer:
-- "Numbers 8 to 10 also give the block's address and the interval's place in the transfer, from 0; all others give 0 and 0.", and 15
-- "the address of the first differing block and place 0"
pub record Executed (o : Outcome Lent) (r a p : ℕ) (after : Lent) : Type 0 where
  pub answer : r ≡ number_of o.answer
  pub address : a ≡ address_of o.answer
  pub place : p ≡ place_of o.answer
  pub left : after ≡ o.left

-- a format choice's answer r, and the type t in the place lent for it: "Answer 0 comes with the type; a refusal comes with type 0."
pub record Chosen (c : Choice) (r t : ℕ) : Type 0 where
  pub answer : r ≡ number_of (answer_of c)
  pub kind : t ≡ kind_of c

-- the answer r to a call that is lent one list to write, and what it then holds
pub record Answered (o : Outcome (List ℕ)) (r : ℕ) (l : List ℕ) : Type 0 where
  pub answer : r ≡ number_of o.answer
  pub left : l ≡ o.left

-- document 02: the answer r to a scrub, and the numbers n, j, f and a in the places lent for "the new place, the blocks judged in this call,
-- how many had a fault, and the address of the first"
pub record HandedBack (o : Scrubbed) (r n j f a : ℕ) : Type 0 where
  pub answer : r ≡ number_of o.answer
  pub next : n ≡ o.next
  pub judged : j ≡ o.judged
  pub faults : f ≡ o.faults
  pub first : a ≡ o.first

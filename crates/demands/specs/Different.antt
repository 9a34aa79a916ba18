-- Document 02, "Compare while verifying": the blocks of a transfer that are not the ones sent.
use Rattle.std.specs.Prelude.{Ok, ℕ, ◌+◌, ◌*◌, ◌<◌, ◌≡◌, true, List, take, drop}
use Rattle.answer.specs.Answer.{number_of, sense_of, address_of, place_of, Answer}
use Rattle.segment.specs.declared.Description.{Description}
use Rattle.command.specs.declared.Command.{Command}
use Rattle.command.specs.declared.Operation.TheVariants.{Write, Verify}
use Rattle.command.specs.Compares.{compares}
use Rattle.refusal.specs.Refusal.{each_of}
use Rattle.sides.specs.declared.Side.{Side}
use Rattle.admission.specs.Admission.{admitted}
use Rattle.transfer.specs.Transfer.{blocks_of, handed}
use Rattle.execute.specs.Lent.{Lent, lengths_of}
use Rattle.demands.specs.Checked.{AllRight}
use Rattle.demands.specs.Compared.{asked}

-- block j of the transfer, as a READ of that code would hand it out, is block j of what is sent
abbrev pub SameBlock : Description → Command → Lent → ℕ → Type 0
SameBlock d c l j =
    take (each_of d c) (drop (j * each_of d c) (handed d c (blocks_of d c l.segment))) ≡ take (each_of d c) (drop (j * each_of d c) l.buffer)

-- where the command compares, every block of the transfer is the one sent
abbrev pub AllSame : Description → Command → Lent → Type 0
AllSame d c l = compares c ≡ true → (j : ℕ) → j < c.length → SameBlock d c l j

-- "15 (0E/1D/00) .. with the address of the first differing block and place 0": all before it are the same, it is not
pub record FirstDifferent (d : Description) (c : Command) (l : Lent) (a : Answer) : Type 0 where
  pub block : ℕ
  pub within : block < c.length
  pub earlier : (j : ℕ) → j < block → SameBlock d c l j
  pub here : SameBlock d c l block → ⊥
  pub number : number_of a ≡ 15
  pub sense : sense_of a ≡ 0x0E_1D_00
  pub address : address_of a ≡ c.address + block
  pub place : place_of a ≡ 0

-- "after every interval check": a transfer in order that compares, every interval under check right, and a block of it that differs
pub record DifferentBlock (d : Description) (command : List ℕ) (l : Lent) : Type 0 where
  pub transfer : Command
  pub in_order : admitted d (lengths_of l) command ≡ Ok transfer
  pub comparing : compares transfer ≡ true
  pub right : (side : Side) → AllRight side d transfer l
  pub block : ℕ
  pub within : block < transfer.length
  pub different : SameBlock d transfer l block → ⊥

-- the VERIFY that asks as a command asks, and compares; the one that does not; the WRITE
abbrev pub as_comparing : Command → Command
as_comparing c = asked Verify 0b01 c

abbrev pub as_not_comparing : Command → Command
as_not_comparing c = asked Verify 0b00 c

abbrev pub as_write : Command → Command
as_write c = asked Write 0b00 c

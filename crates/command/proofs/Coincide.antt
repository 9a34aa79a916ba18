-- "any two permitted answers coincide": of each public function, over its contract as it stands. Whatever the arguments a are, two
-- answers x and y that the contract permits are one, and so is each byte lent to be written, as the calls leave it in s and in t.
-- Assumes nothing.
use mathlib.Core.Path.{◌≡◌, sym, ◌∙◌}
use Rattle.command.proofs.compares.Reads as compares-reads
use Rattle.command.proofs.sixteen.Reads as sixteen-reads
use Rattle.command.proofs.Command.tag.Reads as tag-of-command-reads
use Rattle.command.proofs.Command.application.Reads as application-of-command-reads
use Rattle.command.proofs.Command.mask.Reads as mask-of-command-reads

pub compares : (κs : _) (a : _) (x y : _) (s t : _) → compares-reads.Post κs a x s → compares-reads.Post κs a y t → x ≡ y
compares κs a x y s t p q = p ∙ sym q

pub sixteen : (κs : _) (a : _) (x y : _) (s t : _) → sixteen-reads.Post κs a x s → sixteen-reads.Post κs a y t → x ≡ y
sixteen κs a x y s t p q = p ∙ sym q

pub command_tag : (κs : _) (a : _) (x y : _) (s t : _) → tag-of-command-reads.Post κs a x s → tag-of-command-reads.Post κs a y t → x ≡ y
command_tag κs a x y s t p q = p ∙ sym q

pub command_application : (κs : _) (a : _) (x y : _) (s t : _) → application-of-command-reads.Post κs a x s → application-of-command-reads.Post κs a y t → x ≡ y
command_application κs a x y s t p q = p ∙ sym q

pub command_mask : (κs : _) (a : _) (x y : _) (s t : _) → mask-of-command-reads.Post κs a x s → mask-of-command-reads.Post κs a y t → x ≡ y
command_mask κs a x y s t p q = p ∙ sym q

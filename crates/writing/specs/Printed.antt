-- What printing leaves of a pen.
use Rattle.std.specs.Prelude.{List, ℕ, ◌≡◌}
use Rattle.writing.specs.declared.Pen.{Pen}
use Rattle.writing.specs.Laid.{Written}

-- the pen after `text` was printed with it: in the same buffer, which has the text from where the pen stood, and behind the text
pub record Printed (text : List ℕ) (old new : Pen) : Type 0 where
  pub same_buffer : new.out.ghost_name ≡ old.out.ghost_name
  pub written : Written text old.at old.out.now new.at new.out.now

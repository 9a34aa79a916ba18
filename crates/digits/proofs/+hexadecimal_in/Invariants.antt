-- `digits::hexadecimal_in`: the measure is how many digits there may be.
use Rattle.digits.proofs.+hexadecimal_in.Given as goal

abbrev pub decreases-hexadecimal_in : goal.decreases-hexadecimal_in
decreases-hexadecimal_in l = l.k

-- `digits::decimal_in`: the measure is how many digits there may be.
use Rattle.digits.proofs.+decimal_in.Given as goal

abbrev pub decreases-decimal_in : goal.decreases-decimal_in
decreases-decimal_in l = l.k

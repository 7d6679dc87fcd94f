use Rattle.arithmetic.proofs.Factors.{divisor_is_determined}
use Rattle.arithmetic.proofs.laws.divisor_is_determined.Goals as goal

pub returns : goal.returns
returns c = divisor_is_determined

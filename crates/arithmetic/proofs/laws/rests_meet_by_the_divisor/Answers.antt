use Rattle.arithmetic.proofs.Tests.{rests_meet_by_the_divisor}
use Rattle.arithmetic.proofs.laws.rests_meet_by_the_divisor.Goals as goal

pub returns : goal.returns
returns c = rests_meet_by_the_divisor

use Rattle.arithmetic.proofs.Tests.{apart_is_one_after_the_other}
use Rattle.arithmetic.proofs.laws.apart_is_one_after_the_other.Goals as goal

pub returns : goal.returns
returns c = apart_is_one_after_the_other

use Rattle.arithmetic.proofs.Tests.{finite_test_decides}
use Rattle.arithmetic.proofs.laws.finite_test_decides.Goals as goal

pub returns : goal.returns
returns c = finite_test_decides

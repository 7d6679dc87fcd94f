use Rattle.written.proofs.Exactness.{opening_is_exact}
use Rattle.written.proofs.laws.opening_is_exact.Goals as goal

pub returns : goal.returns
returns c = opening_is_exact

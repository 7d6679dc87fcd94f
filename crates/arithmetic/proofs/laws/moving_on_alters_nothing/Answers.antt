use Rattle.arithmetic.proofs.Tests.{moving_on_alters_nothing}
use Rattle.arithmetic.proofs.laws.moving_on_alters_nothing.Goals as goal

pub returns : goal.returns
returns c = moving_on_alters_nothing

use Rattle.arithmetic.proofs.Windows.{overlaps_come_early}
use Rattle.arithmetic.proofs.laws.overlaps_come_early.Goals as goal

pub returns : goal.returns
returns c = overlaps_come_early

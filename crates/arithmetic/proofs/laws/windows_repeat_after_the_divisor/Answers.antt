use Rattle.arithmetic.proofs.Windows.{windows_repeat_after_the_divisor}
use Rattle.arithmetic.proofs.laws.windows_repeat_after_the_divisor.Goals as goal

pub returns : goal.returns
returns c = windows_repeat_after_the_divisor

use Rattle.written.proofs.Exactness.{written_form_tells}
use Rattle.written.proofs.laws.written_form_tells.Goals as goal

pub returns : goal.returns
returns c = written_form_tells

use Rattle.kinds.proofs.LastingLaws.{lasting}
use Rattle.kinds.proofs.laws.laws_last.Goals as goal

pub returns : goal.returns
returns g c = lasting (g.K.Kind.relations c.args.kind.now) (g.met.K.Kind.lawful c.args.kind.now)

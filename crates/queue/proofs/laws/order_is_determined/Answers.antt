use Rattle.queue.proofs.Sorting.{order_is_determined}
use Rattle.queue.proofs.laws.order_is_determined.Goals as goal

pub returns : goal.returns
returns g c = order_is_determined g.T.Ranked.before g.met.T.Ranked.ranking

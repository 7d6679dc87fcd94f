use Rattle.queue.proofs.PushPop.{popped}
use Rattle.queue.proofs.places.take_first.Goals as goal

pub returns : goal.returns
returns g c =
    let told = c.sift_down.ensures in
    popped g.T.Ranked.before g.met.T.Ranked.ranking c.args.queue.now c.swap.new.self c.sift_down.new.queue c.args.count c.index-queue-0.result
    c.requires.some c.requires.within c.index-queue-0.is c.swap.ensures.by_index told.shuffled told.sinks

use Rattle.queue.proofs.Drains.{Draining}
use Rattle.queue.proofs.draining.drain.Given as goal

abbrev pub invariant-loop-done : goal.invariant-loop-done
invariant-loop-done g l = Draining g.T.Ranked.before l.initial.queue l.count l.queue l.taken l.done

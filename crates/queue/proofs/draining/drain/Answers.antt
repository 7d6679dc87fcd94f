use Rattle.std.proofs.Common.{◌≡◌, length, arith, length-take}
use Rattle.queue.proofs.Drains.{steps, ends}
use Rattle.queue.proofs.draining.drain.Goals as goal

pub loop-done-preserved : goal.loop-done-preserved
loop-done-preserved g c =
    let l = c.loop-done in
    let places : length l.taken ≡ c.args.count = omega (arith, length-take c.args.count c.args.out.now) in
    steps g.T.Ranked.before c.args.queue.now l.queue l.taken c.take_first.new.queue c.args.count l.done c.take_first.result
    (omega arith) places (omega arith) l.invariant c.take_first.ensures

pub returns : goal.returns
returns g c =
    let l = c.loop-done in
    let places : length l.taken ≡ c.args.count = omega (arith, length-take c.args.count c.args.out.now) in
    ends g.T.Ranked.before c.args.queue.now c.args.out.now l.queue l.taken c.args.count l.done (omega arith) (omega arith) places (omega arith) l.invariant

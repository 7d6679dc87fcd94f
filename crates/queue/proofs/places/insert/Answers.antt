use Rattle.std.proofs.Common.{◌+◌, drop, set, arith, drop-set-lt}
use Rattle.queue.proofs.PushPop.{one_more, pushed}
use Rattle.queue.proofs.places.insert.Goals as goal

pub returns : goal.returns
returns g c =
    let q = c.args.queue.now in
    let n = c.args.count in
    let x = c.args.item in
    let told = c.sift_up.ensures in
    pushed g.T.Ranked.before g.met.T.Ranked.ranking q _ c.sift_up.new.queue (drop (n + 1) (set q n x)) n x
    c.requires (one_more q n x c.requires) (drop-set-lt (n + 1) q n x (omega arith)) told.shuffled told.rises

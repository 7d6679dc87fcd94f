use Rattle.std.proofs.Common.{◌≡◌, ◌+◌, ◌*◌, length, subst, refl, true, false, arith}
use Rattle.std.specs.BinaryHeap.Sift.{IsGreaterChild}
use Rattle.std.proofs.HeapSift as sifts
use Rattle.queue.specs.Heaps.{order}
use Rattle.queue.proofs.Orders.{tells, total}
use Rattle.queue.proofs.sifting.first_child.Goals as goal
use Rattle.queue.proofs.sifting.first_child.Goals.{else-right-queue-via-then-right-queue+else-not-is_before, else-right-queue-via-else-right-queue}

pub returns-then-not-is_before-clause-best : goal.returns-then-not-is_before-clause-best
returns-then-not-is_before-clause-best g c =
    let xs = c.args.queue.now in
    let left = c.args.place * 2 + 1 in
    let before = g.T.Ranked.before in
    (sifts.either_child (order before) (total before g.met.T.Ranked.ranking) xs c.args.place left (length xs) false refl (tells before xs (left + 1) left _ c.if-not-is_before.ensures)).1

pub returns-else-right-queue-clause-best : goal.returns-else-right-queue-clause-best
returns-else-right-queue-clause-best g c =
    let xs = c.args.queue.now in
    let left = c.args.place * 2 + 1 in
    let before = g.T.Ranked.before in
    let same : left + 0 ≡ left = omega arith in
    elim c.else-right-queue.branch [
      | else-right-queue-via-then-right-queue+else-not-is_before w ↦
          subst (λ k. IsGreaterChild (order before) xs c.args.place k (length xs)) same
          (sifts.either_child (order before) (total before g.met.T.Ranked.ranking) xs c.args.place left (length xs) true refl (tells before xs (left + 1) left _ w.if-not-is_before.ensures)).1
      | else-right-queue-via-else-right-queue w ↦
          sifts.only_child (order before) (total before g.met.T.Ranked.ranking) xs c.args.place left (length xs) refl (omega arith)
    ]

use Rattle.std.proofs.Common.{◌-◌, length}
use Rattle.std.proofs.HeapSift as sifts
use Rattle.std.specs.List.Sorted.{IsPermutation}
use Rattle.queue.specs.Heaps.{order}
use Rattle.queue.proofs.Orders.{total}
use Rattle.queue.proofs.sifting.sift_down.Given as goal

abbrev pub invariant-loop-place : goal.invariant-loop-place
invariant-loop-place g l = record {
  shuffled : IsPermutation l.initial.queue l.queue;
  sinking : sifts.Sinking (order g.T.Ranked.before) (total g.T.Ranked.before g.met.T.Ranked.ranking) l.initial.queue 0 (length l.initial.queue) l.queue l.place;
}

abbrev pub decreases-loop-place : goal.decreases-loop-place
decreases-loop-place g l = l.n - l.place

use Rattle.std.proofs.Common.{length, sym, ◌∙◌, subst, arith}
use Rattle.std.specs.BinaryHeap.Sift.{IsGreaterChild}
use Rattle.std.proofs.HeapSift as sifts
use Rattle.std.proofs.Permutation.{as_core}
use Rattle.std.proofs.lemmas.List.Sorted.{IsPermutation-refl, IsPermutation-trans}
use Rattle.queue.specs.Heaps.{order}
use Rattle.queue.proofs.Orders.{tells, total}
use Rattle.queue.proofs.sifting.sift_down.Goals as goal

pub loop-place-init : goal.loop-place-init
loop-place-init g c = record {
  shuffled = IsPermutation-refl c.args.queue.now;
  sinking = sifts.sink_begins (order g.T.Ranked.before) (total g.T.Ranked.before g.met.T.Ranked.ranking) c.args.queue.now 0 (length c.args.queue.now);
}

pub returns-then-not-is_before-clause-sinks : goal.returns-then-not-is_before-clause-sinks
returns-then-not-is_before-clause-sinks g c =
    let before = g.T.Ranked.before in
    let l = c.loop-place in
    let xs = c.args.queue.now in
    let child = c.first_child-child.result in
    let best = subst (IsGreaterChild (order before) l.queue l.place child) l.auto.queue c.first_child-child.ensures.best in
    sifts.sink_rests (order before) (total before g.met.T.Ranked.ranking) xs l.queue 0 (length xs) l.place child
    best (tells before l.queue l.place child _ c.if-not-is_before.ensures) l.invariant.sinking

pub loop-place-preserved : goal.loop-place-preserved
loop-place-preserved g c =
    let before = g.T.Ranked.before in
    let l = c.loop-place in
    let xs = c.args.queue.now in
    let ys = l.queue in
    let zs = c.swap.new.self in
    let child = c.first_child-child.result in
    let bound = c.first_child-child.ensures.bound in
    let best = subst (IsGreaterChild (order before) ys l.place child) l.auto.queue c.first_child-child.ensures.best in record {
      shuffled = IsPermutation-trans xs ys zs l.invariant.shuffled c.swap.ensures.permutation;
      sinking = sifts.sink_steps (order before) (total before g.met.T.Ranked.ranking) xs ys zs 0 (length xs) l.place child
          (omega arith) bound.1 bound.2 (omega arith) (omega arith) (c.swap.ensures.after ∙ sym (as_core ys l.place child))
          best (tells before ys l.place child _ c.if-not-is_before.ensures) l.invariant.sinking;
    }

pub returns-clause-sinks : goal.returns-clause-sinks
returns-clause-sinks g c =
    let l = c.loop-place in
    sifts.sink_ends (order g.T.Ranked.before) (total g.T.Ranked.before g.met.T.Ranked.ranking) c.args.queue.now l.queue 0 (length c.args.queue.now) l.place (omega arith) l.invariant.sinking

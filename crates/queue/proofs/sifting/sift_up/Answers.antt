use Rattle.std.proofs.Common.{◌-◌, ◌/◌, sym, ◌∙◌, arith}
use Rattle.std.proofs.HeapSift as sifts
use Rattle.std.proofs.Permutation.{as_core}
use Rattle.std.proofs.lemmas.List.Sorted.{IsPermutation-refl, IsPermutation-trans}
use Rattle.queue.specs.Heaps.{order}
use Rattle.queue.proofs.Orders.{tells, total}
use Rattle.queue.proofs.sifting.sift_up.Goals as goal

pub loop-place-init : goal.loop-place-init
loop-place-init g c = record {
  within = c.requires;
  above = omega arith;
  shuffled = IsPermutation-refl c.args.queue.now;
  rising = sifts.rise_begins (order g.T.Ranked.before) (total g.T.Ranked.before g.met.T.Ranked.ranking) c.args.queue.now c.args.start;
}

pub loop-place-preserved : goal.loop-place-preserved
loop-place-preserved g c =
    let before = g.T.Ranked.before in
    let l = c.loop-place in
    let xs = c.args.queue.now in
    let ys = l.queue in
    let zs = c.swap.new.self in
    let up = (l.place - 1) / 2 in record {
      within = omega arith;
      above = omega arith;
      shuffled = IsPermutation-trans xs ys zs l.invariant.shuffled c.swap.ensures.permutation;
      rising = sifts.rise_steps (order before) (total before g.met.T.Ranked.ranking) xs ys zs c.args.start l.place (omega arith) (omega arith) (omega arith)
          (c.swap.ensures.after ∙ sym (as_core ys up l.place)) (tells before ys up l.place _ c.if-not-is_before.ensures) l.invariant.rising;
    }

pub returns-then-not-is_before-clause-rises : goal.returns-then-not-is_before-clause-rises
returns-then-not-is_before-clause-rises g c =
    let before = g.T.Ranked.before in
    let l = c.loop-place in
    sifts.rise_rests (order before) (total before g.met.T.Ranked.ranking) c.args.queue.now l.queue c.args.start l.place
    (tells before l.queue ((l.place - 1) / 2) l.place _ c.if-not-is_before.ensures) l.invariant.rising

pub returns-clause-rises : goal.returns-clause-rises
returns-clause-rises g c =
    let l = c.loop-place in
    sifts.rise_tops (order g.T.Ranked.before) (total g.T.Ranked.before g.met.T.Ranked.ranking) c.args.queue.now l.queue c.args.start l.place (omega arith) l.invariant.rising

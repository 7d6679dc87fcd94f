use Rattle.std.proofs.Common.{◌&&◌, ap, ◌∙◌, sym, arith}
use Rattle.std.proofs.lemmas.List.{length-set, take_more_set}
use Rattle.costs.specs.Costs.{points_right}
use Rattle.costs.specs.Tables.{points_of}
use Rattle.costs.proofs.Rising.{points_right-push}
use Rattle.costs.proofs.points.Points.push.Goals as goal

pub returns-clause-after : goal.returns-clause-after
returns-clause-after c = take_more_set c.args.self.now.items c.args.self.now.count c.args.next (omega arith)

pub invariant_of-self : goal.invariant_of-self
invariant_of-self c =
    let p = c.args.self.now in
    let x = c.args.next in
    let e = take_more_set p.items p.count x (omega arith) in record {
      kept = (
        length-set p.items p.count x ∙ p.kept.0,
        omega arith,
        ap points_right e ∙ points_right-push (points_of p) x ∙ (λ i. p.kept.2 i && (sym c.may_follow.ensures ∙ c.if-not-may_follow.false) i),
      );
    }

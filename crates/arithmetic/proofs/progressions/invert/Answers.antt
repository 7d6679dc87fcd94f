use Rattle.std.proofs.Common.{◌≡◌, ◌-◌, ◌*◌, ◌%◌, Bool, cond, subst}
use Rattle.arithmetic.proofs.Factors.{inverse_solves}
use Rattle.arithmetic.proofs.progressions.invert.Goals as goal

pub returns-then-r-clause-solves : goal.returns-then-r-clause-solves
returns-then-r-clause-solves c =
    let a = c.args.a in
    let b = c.args.b in
    let r = c.extended_gcd-r.result in
    subst (λ (s : Bool). (a * cond s (b - r.x) r.x) % b ≡ r.divisor % b) c.if-r.true (inverse_solves a b r c.requires c.extended_gcd-r.ensures.identity)

pub returns-else-r-clause-solves : goal.returns-else-r-clause-solves
returns-else-r-clause-solves c =
    let a = c.args.a in
    let b = c.args.b in
    let r = c.extended_gcd-r.result in
    subst (λ (s : Bool). (a * cond s (b - r.x) r.x) % b ≡ r.divisor % b) c.if-r.false (inverse_solves a b r c.requires c.extended_gcd-r.ensures.identity)

use Rattle.std.proofs.Common.{arith}
use Rattle.arithmetic.proofs.Factors.{identity_step}
use Rattle.arithmetic.proofs.euclid.+extended_gcd.Goals as goal

pub returns-clause-identity : goal.returns-clause-identity
returns-clause-identity t c =
    let h = c.extended_gcd-next.ensures in
    identity_step c.args.a c.args.b c.extended_gcd-next.result (omega arith) h.identity h.reduced

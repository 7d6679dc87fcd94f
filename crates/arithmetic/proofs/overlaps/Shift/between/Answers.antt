use Rattle.std.proofs.Common.{arith}
use Rattle.arithmetic.proofs.Pairs.{shared}
use Rattle.arithmetic.proofs.overlaps.Shift.between.Goals as goal

pub gap-gap-requires-clause-fits : goal.gap-gap-requires-clause-fits
gap-gap-requires-clause-fits c = let h = shared c.args.a.now c.args.b.now _ _ _ c.repeat.ensures c.repeat-2.ensures c.gcd-divisor.ensures in omega (arith, h.1, c.args.b.now.early)

pub returns-clause-divisor : goal.returns-clause-divisor
returns-clause-divisor c = (shared c.args.a.now c.args.b.now _ _ _ c.repeat.ensures c.repeat-2.ensures c.gcd-divisor.ensures).0

pub returns-clause-limit : goal.returns-clause-limit
returns-clause-limit c = (shared c.args.a.now c.args.b.now _ _ _ c.repeat.ensures c.repeat-2.ensures c.gcd-divisor.ensures).1

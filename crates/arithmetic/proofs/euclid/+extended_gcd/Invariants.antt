use Rattle.arithmetic.proofs.euclid.+extended_gcd.Given as goal

abbrev pub decreases-extended_gcd : goal.decreases-extended_gcd
decreases-extended_gcd l = l.b

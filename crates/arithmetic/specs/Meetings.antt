-- Two progressions, one from a on by p and one from b on by q.
use Rattle.std.specs.Prelude.{◌≡◌, ℕ, ◌+◌, ◌*◌, ◌%◌, ◌<◌, ◌≤◌}
use Rattle.arithmetic.specs.Divisors.{gcd}

-- They are at the same number after i and j steps.
pub record Meet (p a q b i j : ℕ) : Type 0 where
  pub same : a + i * p ≡ b + j * q
  pub first_bound : i ≤ q + b
  pub second_bound : j ≤ p + a

-- They agree modulo the divisor of their steps, and are small enough to be computed in 64 bits.
pub record Agree (p a q b : ℕ) : Type 0 where
  pub p_positive : 0 < p
  pub p_limit : p ≤ 64000000
  pub q_positive : 0 < q
  pub q_limit : q ≤ 64000000
  pub a_limit : a ≤ 164000000
  pub b_limit : b ≤ 164000000
  pub rests : a % gcd p q ≡ b % gcd p q

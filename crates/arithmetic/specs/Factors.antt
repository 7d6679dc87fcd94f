-- The factors of Bézout's identity, in unsigned numbers.
use Rattle.std.specs.Prelude.{◌≡◌, ℕ, ◌+◌, ◌*◌, ◌≤◌, max, MatchBool}
use Rattle.arithmetic.specs.declared.euclid.Bezout.{Bezout}
use Rattle.arithmetic.specs.Divisors.{Greatest}

pub record Identity (a b : ℕ) (r : Bezout) : Type 0 where
  pub greatest : Greatest a b r.divisor
  -- the divisor is the difference of a multiple of a and a multiple of b, in one of the two orders
  pub combines : MatchBool r.swapped (b * r.y ≡ r.divisor + a * r.x) (a * r.x ≡ r.divisor + b * r.y)
  -- neither factor is above the other number, or above 1 where that is 0
  pub x_bound : r.x ≤ max b 1
  pub y_bound : r.y ≤ max a 1

-- no multiple of 0 is taken
abbrev pub Reduced : ℕ → Bezout → Type 0
Reduced b r = b ≡ 0 → r.y ≡ 0

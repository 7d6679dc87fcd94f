-- The greatest common divisor, by what it is.
use Rattle.std.specs.Prelude.{◌≡◌, ℕ, zero, suc, ◌%◌, max, cond, ◌&&◌, ◌==◌}
use Rattle.std.specs.Int.{◌∣◌}

-- g divides a and b, and whatever divides both divides g
pub record Greatest (a b g : ℕ) : Type 0 where
  pub divides_first : g ∣ a
  pub divides_second : g ∣ b
  pub greatest : (d : ℕ) → d ∣ a → d ∣ b → d ∣ g

-- The same number as a function, for definitions that need one: the largest number up to n that divides both ..
abbrev pub largest_divisor : ℕ → ℕ → ℕ → ℕ
largest_divisor a b zero = zero
largest_divisor a b (suc n) = cond (a % suc n == 0 && b % suc n == 0) (suc n) (largest_divisor a b n)

-- .. and no number above both divides both, unless both are 0.
unfoldable pub gcd : ℕ → ℕ → ℕ
gcd a b = largest_divisor a b (max a b)

-- every two numbers have one greatest common divisor and no other, and it is `gcd`
pub record Determined (a b : ℕ) : Type 0 where
  pub exists : Greatest a b (gcd a b)
  pub only : (g : ℕ) → Greatest a b g → g ≡ gcd a b

abbrev pub DivisorIsDetermined : Type 0
DivisorIsDetermined = (a b : ℕ) → Determined a b

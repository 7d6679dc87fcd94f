-- Bézout's identity: one step of the extended algorithm, that it always exists, and the inverse that it gives.
use Rattle.std.proofs.Common.{◌≡◌, ℕ, zero, suc, ◌+◌, ◌-◌, ◌*◌, ◌/◌, ◌%◌, ◌<◌, ◌≤◌, max, Bool, true, false, cond, not, MatchBool, sym, refl, ap, ◌∙◌, subst, ⊎_elim, mod-lt, mul-le-mul_left, div-add-mod', arith}
use native.Mathlib.Nat.{mul-sub, add-mul-mod_self_left}
use Rattle.std.proofs.lemmas.Bool.{cases_lt}
use Rattle.arithmetic.specs.declared.euclid.Bezout.{Bezout}
use Rattle.arithmetic.specs.Divisors.{Greatest, DivisorIsDetermined}
use Rattle.arithmetic.specs.Factors.{Identity, Reduced}
use Rattle.arithmetic.proofs.Divisors.{greatest_zero, greatest_step, gcd_of}

pub identity_zero : (a b : ℕ) → b ≡ 0 → Identity a b (record { divisor = a; x = 1; y = 0; swapped = false })
identity_zero a b e = record {
  greatest = subst (λ (c : ℕ). Greatest a c a) (sym e) (greatest_zero a);
  combines = omega arith;
  x_bound = omega arith;
  y_bound = omega arith;
}

-- from b and a % b to a and b
abbrev pub next : ℕ → ℕ → Bezout → Bezout
next a b r = record { divisor = r.divisor; x = r.y; y = r.x + a / b * r.y; swapped = not r.swapped }

combines_step : (a b g x y : ℕ) (s : Bool) → MatchBool s (a % b * y ≡ g + b * x) (b * x ≡ g + a % b * y)
    → MatchBool (not s) (b * (x + a / b * y) ≡ g + a * y) (a * y ≡ g + b * (x + a / b * y))
combines_step a b g x y true h = omega (arith, ap (λ n. n * y) (div-add-mod' a b))
combines_step a b g x y false h = omega (arith, ap (λ n. n * y) (div-add-mod' a b))

-- the new factor of b stays within its bound
pub factor_bound : (a b : ℕ) (r : Bezout) → 0 < b → Identity b (a % b) r → Reduced (a % b) r → r.x + a / b * r.y ≤ max a 1
factor_bound a b r pos h z =
    let all = div-add-mod' a b in
    ⊎_elim
    (λ (lt : 0 < a % b). let y : r.y ≤ b = omega (arith, h.y_bound) in let m = mul-le-mul_left (a / b) y in omega (arith, h.x_bound))
    (λ (le : a % b ≤ 0). let m = ap (λ n. a / b * n) (z (omega arith)) in omega (arith, h.x_bound))
    (cases_lt 0 (a % b))

pub identity_step : (a b : ℕ) (r : Bezout) → 0 < b → Identity b (a % b) r → Reduced (a % b) r → Identity a b (next a b r)
identity_step a b r pos h z = record {
  greatest = greatest_step a b r.divisor h.greatest;
  combines = combines_step a b r.divisor r.x r.y r.swapped h.combines;
  x_bound = omega (arith, h.y_bound);
  y_bound = factor_bound a b r pos h z;
}

-- every two numbers have factors; n bounds the steps
found : (n a b : ℕ) → b ≤ n → (r : Bezout) × (Identity a b r × Reduced b r)
found n a zero le = (record { divisor = a; x = 1; y = 0; swapped = false }, (identity_zero a 0 refl, λ e. refl))
found zero a (suc b) le = absurd (omega arith)
found (suc n) a (suc b) le =
    let lt : a % suc b < suc b = mod-lt a (omega arith) in
    let h = found n (suc b) (a % suc b) (omega arith) in
    (next a (suc b) h.0, (identity_step a (suc b) h.0 (omega arith) h.1.0 h.1.1, λ e. absurd (omega arith)))

pub identity : (a b : ℕ) → (r : Bezout) × Identity a b r
identity a b = let h = found b a b (omega arith) in (h.0, h.1.0)

pub divisor_is_determined : DivisorIsDetermined
divisor_is_determined a b =
    let g = (identity a b).0.divisor in
    let h = (identity a b).1.greatest in
    record { exists = subst (λ (g : ℕ). Greatest a b g) (sym (gcd_of a b g h)) h; only = λ g h. sym (gcd_of a b g h) }

-- the factor of a from which the multiple of b is taken away
abbrev pub inverse : ℕ → Bezout → ℕ
inverse b r = cond r.swapped (b - r.x) r.x

combines_inverse : (a b g x y : ℕ) (s : Bool) → x ≤ b → MatchBool s (b * y ≡ g + a * x) (a * x ≡ g + b * y) → (a * cond s (b - x) x) % b ≡ g % b
combines_inverse a b g x y false le e = ap (λ n. n % b) e ∙ add-mul-mod_self_left g b y
combines_inverse a b g x y true le e =
    let both : a * (b - x) + b * y ≡ g + b * a = omega (arith, mul-sub a b x, mul-le-mul_left a le) in
    sym (add-mul-mod_self_left (a * (b - x)) b y) ∙ ap (λ n. n % b) both ∙ add-mul-mod_self_left g b a

-- modulo b, it takes a to the divisor
pub inverse_solves : (a b : ℕ) (r : Bezout) → 0 < b → Identity a b r → (a * inverse b r) % b ≡ r.divisor % b
inverse_solves a b r pos h = combines_inverse a b r.divisor r.x r.y r.swapped (omega (arith, h.x_bound)) h.combines

-- Division rounded up.
use Rattle.std.proofs.Common.{◌≡◌, ℕ, ◌+◌, ◌*◌, ◌/◌, ◌%◌, ◌<◌, ◌≤◌, min, subst, ⊎_elim, mul-le-mul_right, mod-lt, div-add-mod', arith}
use Rattle.std.proofs.lemmas.Bool.{cases_lt}
use Rattle.arithmetic.specs.Division.{RoundedUp}

-- k parts and a rest: without a rest k parts are enough, else one more is wanted
whole : (n d k : ℕ) → 0 < d → k * d ≡ n → RoundedUp n d k
whole n d k pos e = record {
  enough = omega arith;
  least = λ m le. ⊎_elim (λ (lt : m < k). absurd (omega (arith, mul-le-mul_right d lt))) (λ (ge : k ≤ m). ge) (cases_lt m k);
}

one_more : (n d k r : ℕ) → 0 < r → r < d → k * d + r ≡ n → RoundedUp n d (k + 1)
one_more n d k r pos lt e = record {
  enough = omega arith;
  least = λ m le. ⊎_elim (λ (few : m < k + 1). let h : m ≤ k = omega arith in absurd (omega (arith, mul-le-mul_right d h))) (λ (ge : k + 1 ≤ m). ge) (cases_lt m (k + 1));
}

pub rounded_up : (n d q : ℕ) → 0 < d → q ≡ n / d + min 1 (n % d) → RoundedUp n d q
rounded_up n d q pos e =
    ⊎_elim
    (λ (rest : 0 < n % d). let is : n / d + 1 ≡ q = omega arith in subst (λ (k : ℕ). RoundedUp n d k) is (one_more n d (n / d) (n % d) rest (mod-lt n pos) (div-add-mod' n d)))
    (λ (none : n % d ≤ 0). let is : n / d ≡ q = omega arith in subst (λ (k : ℕ). RoundedUp n d k) is (whole n d (n / d) pos (omega (arith, div-add-mod' n d))))
    (cases_lt 0 (n % d))

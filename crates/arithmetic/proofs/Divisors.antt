-- The greatest common divisor: one step of Euclid's algorithm, and that it is the one number that `gcd` names.
use Rattle.std.proofs.Common.{◌≡◌, ℕ, zero, suc, ◌%◌, ◌<◌, ◌≤◌, max, Bool, true, false, ◌&&◌, eqb, ◌⊎◌, sym, ◌∙◌, subst, inl, inr, ⊎_elim, arith}
use native.Mathlib.Nat.{dvd_refl, dvd-zero, dvd-mod_iff, dvd_antisymm, dvd_of_mod-eq-zero, mod-eq-zero_of_dvd, le_of_dvd, pos_of_dvd_of_pos}
use Rattle.std.proofs.lemmas.Bool.{cases_Bool, cases_order, and_parts, eqb-true, eq-eqb, and_from, cond-true, cond-false, both_ways}
use Rattle.arithmetic.specs.Divisors.{Greatest, gcd, largest_divisor}

pub greatest_zero : (a : ℕ) → Greatest a 0 a
greatest_zero a = record { divides_first = dvd_refl a; divides_second = dvd-zero a; greatest = λ d p q. p }

-- from b and a % b to a and b
pub greatest_step : (a b g : ℕ) → Greatest b (a % b) g → Greatest a b g
greatest_step a b g h = record {
  divides_first = (dvd-mod_iff g h.divides_first).0 h.divides_second;
  divides_second = h.divides_first;
  greatest = λ d p q. h.greatest d q ((dvd-mod_iff d q).1 p);
}

abbrev divides_both : ℕ → ℕ → ℕ → Bool
divides_both a b d = eqb (a % d) 0 && eqb (b % d) 0

divides_both_true : (a b g : ℕ) → Greatest a b g → divides_both a b g ≡ true
divides_both_true a b g h =
    and_from (eqb (a % g) 0) (eqb (b % g) 0)
    (eq-eqb (a % g) 0 (mod-eq-zero_of_dvd g h.divides_first)) (eq-eqb (b % g) 0 (mod-eq-zero_of_dvd g h.divides_second))

true_below : (a b g d : ℕ) → 0 < g → Greatest a b g → divides_both a b d ≡ true → d ≤ g
true_below a b g d pos h yes' =
    let parts = and_parts (eqb (a % d) 0) (eqb (b % d) 0) yes' in
    le_of_dvd pos (h.greatest d (dvd_of_mod-eq-zero d (eqb-true (a % d) 0 parts.0)) (dvd_of_mod-eq-zero d (eqb-true (b % d) 0 parts.1)))

-- going down from n, the first common divisor is the greatest one
first_below : (a b g n : ℕ) → 0 < g → g ≤ n → Greatest a b g → largest_divisor a b n ≡ g
first_below a b g zero pos le h = absurd (omega arith)
first_below a b g (suc n) pos le h =
    ⊎_elim
    (λ (is : divides_both a b (suc n) ≡ true).
    let up : suc n ≤ g = true_below a b g (suc n) pos h is in
    let same : suc n ≡ g = omega arith in
    cond-true (divides_both a b (suc n)) (suc n) (largest_divisor a b n) is ∙ same)
    (λ (not' : divides_both a b (suc n) ≡ false).
    cond-false (divides_both a b (suc n)) (suc n) (largest_divisor a b n) not'
    ∙ first_below a b g n pos (smaller (cases_order g (suc n)) not') h)
    (cases_Bool (divides_both a b (suc n)))
  where
    smaller : (g ≡ suc n) ⊎ ((g < suc n) ⊎ (suc n < g)) → divides_both a b (suc n) ≡ false → g ≤ n
    smaller (inl e) f = absurd (both_ways (divides_both a b (suc n)) f (subst (λ (d : ℕ). divides_both a b d ≡ true) e (divides_both_true a b g h)))
    smaller (inr (inl lt)) f = omega arith
    smaller (inr (inr gt)) f = absurd (omega arith)

pub gcd_of : (a b g : ℕ) → Greatest a b g → gcd a b ≡ g
unfolding gcd
gcd_of zero zero g h = sym (dvd_antisymm (dvd-zero g) (h.greatest 0 (dvd-zero 0) (dvd-zero 0)))
gcd_of zero (suc b) g h = first_below zero (suc b) g (max zero (suc b)) (pos_of_dvd_of_pos h.divides_second (omega arith)) (omega (arith, le_of_dvd {n = suc b} (omega arith) h.divides_second)) h
gcd_of (suc a) b g h = first_below (suc a) b g (max (suc a) b) (pos_of_dvd_of_pos h.divides_first (omega arith)) (omega (arith, le_of_dvd {n = suc a} (omega arith) h.divides_first)) h

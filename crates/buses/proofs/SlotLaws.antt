-- Beginnings of slots: the test of one, and the first from a start on.
use Rattle.std.proofs.Common.{◌≡◌, ℕ, zero, suc, ◌+◌, ◌-◌, ◌*◌, ◌/◌, ◌%◌, ◌<◌, ◌≤◌, true, ◌&&◌, eqb, ltb, ap, ◌∙◌, ⊎_elim, mul-le-mul_right, mod-lt, mod-eq_of_lt, mul-div_cancel, arith}
use native.Mathlib.Nat.{mul-add-mod_self_left, mod-add-div, mod-add-div', mul-mod_left}
use Rattle.std.specs.Cmp.{both_ways}
use Rattle.std.proofs.lemmas.Bool.Decides.{nat_tests}
use Rattle.std.proofs.lemmas.Bool.{false_from_ne_true, and_from, or_cases, eqb-true, eq-eqb, lt-ltb}
use Rattle.arithmetic.specs.Division.{RoundedUp}
use Rattle.buses.specs.Bus.{at_slot}
use Rattle.buses.specs.Slots.{FirstSlot}

pub slot_from : (c m l s n : ℕ) → n < m → s % c ≡ n * l → at_slot c m l s ≡ true
slot_from c zero l s n lt e = absurd (omega arith)
slot_from c (suc m) l s n lt e = grind (arith, nat_tests, slot_from c m l s n)

pub slot_of : (c m l s : ℕ) → at_slot c m l s ≡ true → (n : ℕ) × ((n < m) × (s % c ≡ n * l))
slot_of c zero l s h = let z : ◌≡◌ {A = ℕ} 0 1 = cc in absurd (omega arith)
slot_of c (suc m) l s h =
    ⊎_elim
    (λ (e : at_slot c m l s ≡ true). let z = slot_of c m l s e in (z.0, (omega (arith, z.1.0), z.1.1)))
    (λ (e : eqb (s % c) (m * l) ≡ true). (m, (omega arith, eqb-true (s % c) (m * l) e)))
    (or_cases (at_slot c m l s) (eqb (s % c) (m * l)) h)

-- a place is the beginning of a slot exactly when the slot length divides it and the quotient is below m
pub slot_test : (c m l s : ℕ) → 0 < l → at_slot c m l s ≡ (eqb (s % c % l) 0 && ltb (s % c / l) m)
slot_test c m l s pos = both_ways (at_slot c m l s) (eqb (s % c % l) 0 && ltb (s % c / l) m) back there
  where
    there : (eqb (s % c % l) 0 && ltb (s % c / l) m) ≡ true → at_slot c m l s ≡ true
    there h = slot_from c m l s (s % c / l) (grind (arith, nat_tests)) (grind (arith, nat_tests, mod-add-div' (s % c) l))

    back : at_slot c m l s ≡ true → (eqb (s % c % l) 0 && ltb (s % c / l) m) ≡ true
    back h =
        let z = slot_of c m l s h in
        and_from (eqb (s % c % l) 0) (ltb (s % c / l) m)
        (eq-eqb (s % c % l) 0 (ap (λ w. w % l) z.1.1 ∙ mul-mod_left z.0 l))
        (ap (λ w. ltb (w / l) m) z.1.1 ∙ ap (λ q. ltb q m) (mul-div_cancel z.0 pos) ∙ lt-ltb z.0 m z.1.0)

-- a place u of a cycle, after n cycles
in_cycle : (c n u : ℕ) → u < c → (c * n + u) % c ≡ u
in_cycle c n u h = mul-add-mod_self_left c n u ∙ mod-eq_of_lt h

module _ (c m l from : ℕ) (full : m * l ≤ c) (some : 0 < m) (pos : 0 < l) where
  pub cycle_positive : 0 < c
  cycle_positive = omega (arith, mul-le-mul_right l some)

  from_is : c * (from / c) + from % c ≡ from
  from_is = omega (arith, mod-add-div from c)

  -- a slot of this cycle that begins no sooner
  slot_after : (q s : ℕ) → RoundedUp (from % c) l q → from ≤ s → s < c * (from / c) + c → at_slot c m l s ≡ true
      → (k : ℕ) × ((k < m) × (s ≡ c * (from / c) + k * l) × (q ≤ k))
  slot_after q s up low high h =
      let z = slot_of c m l s h in
      let u : ℕ = s - c * (from / c) in
      let split : s ≡ c * (from / c) + u = omega (arith, from_is) in
      let place : s % c ≡ u = ap (λ v. v % c) split ∙ in_cycle c (from / c) u (omega (arith, from_is)) in
      let is : s ≡ c * (from / c) + z.0 * l = omega (arith, z.1.1) in
      (z.0, (z.1.0, is, up.least z.0 (omega (arith, from_is))))

  pub same_cycle : (q : ℕ) → RoundedUp (from % c) l q → q < m → FirstSlot c m l from (from - from % c + q * l)
  same_cycle q up lt = record {
    onward = omega (arith, up.enough);
    begins =
        slot_from c m l (from - from % c + q * l) q lt
        (ap (λ v. (v + q * l) % c) (let e : from - from % c ≡ c * (from / c) = omega (arith, from_is) in e) ∙ in_cycle c (from / c) (q * l) (omega (arith, mul-le-mul_right l lt)));
    none_before = λ s low high. false_from_ne_true (at_slot c m l s) (λ h.
        let z = slot_after q s up low (omega (arith, from_is, mul-le-mul_right l lt)) h in
        omega (arith, from_is, z.1.1, mul-le-mul_right l z.1.2));
  }

  pub next_cycle : (q : ℕ) → RoundedUp (from % c) l q → m ≤ q → FirstSlot c m l from (from - from % c + c)
  next_cycle q up ge = record {
    onward = omega (arith, mod-lt from cycle_positive);
    begins =
        slot_from c m l (from - from % c + c) 0 some
        (ap (λ v. v % c) (let e : from - from % c + c ≡ c * (from / c + 1) + 0 = omega (arith, from_is) in e) ∙ in_cycle c (from / c + 1) 0 cycle_positive ∙ omega arith);
    none_before = λ s low high. false_from_ne_true (at_slot c m l s) (λ h.
        let z = slot_after q s up low (omega (arith, from_is)) h in
        omega (arith, z.1.0, z.1.2));
  }

-- Where two progressions meet, as the factor of Bézout's identity names it.
use Rattle.std.proofs.Common.{◌≡◌, ℕ, zero, suc, ◌+◌, ◌-◌, ◌*◌, ◌/◌, ◌%◌, ◌<◌, ◌≤◌, min, sym, ap, ◌∙◌, subst, ⊎_elim, mul-le-mul_right, mod-lt, mul-le-mul, mul-le-mul_left, mul-pos, arith}
use native.Mathlib.Nat.{mod-add-div, add-mul-mod_self_right, mul-mod_left, div-mul_cancel, pos_of_dvd_of_pos}
use Rattle.std.proofs.lemmas.Bool.{cases_lt}
use Rattle.arithmetic.specs.Division.{RoundedUp}
use Rattle.arithmetic.specs.Divisors.{Greatest}
use Rattle.arithmetic.specs.Laws.{gap}
use Rattle.arithmetic.specs.Meetings.{Agree, Meet}
use Rattle.arithmetic.proofs.Divisions.{rounded_up}
use Rattle.arithmetic.proofs.Factors.{divisor_is_determined}

-- the gap, with its multiples of g
pub gap_is : (g s t : ℕ) → 0 < g → (m : ℕ) × ((n : ℕ) × (t + m * g ≡ s + gap g s t + n * g))
gap_is g s t pos = (s / g + 1, ((t + (g - s % g)) / g, omega (arith, mod-add-div s g, mod-add-div (t + (g - s % g)) g, mod-lt s pos)))

-- numbers with the same rest differ by multiples, and the other way round
pub rest_multiples : (a b g : ℕ) → a % g ≡ b % g → a + b / g * g ≡ b + a / g * g
rest_multiples a b g e = omega (arith, mod-add-div a g, mod-add-div b g)

pub multiples_rest : (a b g m n : ℕ) → a + m * g ≡ b + n * g → a % g ≡ b % g
multiples_rest a b g m n e = sym (add-mul-mod_self_right a m g) ∙ ap (λ v. v % g) e ∙ add-mul-mod_self_right b n g

-- what differs from 0 by multiples of g is one
multiple : (d g m n : ℕ) → d + n * g ≡ m * g → d ≡ d / g * g
multiple d g m n h =
    let rest : d % g ≡ 0 = sym (add-mul-mod_self_right d n g) ∙ ap (λ v. v % g) h ∙ mul-mod_left m g in
    omega (arith, mod-add-div d g)

-- steps of p > 0 that lead no further than r of them and b lead no further than b + r steps
steps_bound : (i r p b : ℕ) → 0 < p → i * p ≤ b + r * p → i ≤ b + r
steps_bound i r p b pos le =
    ⊎_elim (λ (lt : b + r < i). absurd (omega (arith, mul-le-mul_right p lt, mul-le-mul_left b pos))) (λ (ge : i ≤ b + r). ge) (cases_lt (b + r) i)

-- The first progression meets the second modulo q after u * x steps, where u divisors lie between the starts ..
congruent : (p q g l r x a b e u i w y y' m n : ℕ) → p ≡ l * g → q ≡ r * g → i + r * w ≡ u * x → p * x + q * y' ≡ g + q * y → e ≡ u * g
    → b + m * q ≡ a + e + n * q → a + i * p + (l * w + u * y' + n) * q ≡ b + (m + u * y) * q
congruent p q g l r x a b e u i w y y' m n pl qr iw px eu is =
    omega (arith, ap (λ c. c * p) iw, ap (λ c. (r * w) * c) pl, ap (λ c. (l * w) * c) qr, ap (λ c. u * c) px)

-- .. and so after any multiple of r = q / g steps more.
lifted : (p q g l r a b i z A B : ℕ) → p ≡ l * g → q ≡ r * g → a + i * p + A * q ≡ b + B * q → a + (i + r * z) * p + A * q ≡ b + (B + l * z) * q
lifted p q g l r a b i z A B pl qr h = omega (arith, ap (λ c. (r * z) * c) pl, ap (λ c. (l * z) * c) qr)

-- a congruence modulo q, from b on, is an equation
exact : (a b q A B : ℕ) → b ≤ a → a + A * q ≡ b + B * q → a ≡ b + (a - b) / q * q
exact a b q A B le h =
    let d : ℕ = a - b in
    let back : d + b ≡ a = omega arith in
    let e : d ≡ d / q * q = multiple d q B A (omega arith) in
    omega arith

module _ (p q g : ℕ) (pp : 0 < p) (qp : 0 < q) (h : Greatest p q g) where
  gp : 0 < g
  gp = pos_of_dvd_of_pos h.divides_first pp

  pl : p ≡ p / g * g
  pl = sym (div-mul_cancel g h.divides_first)

  qr : q ≡ q / g * g
  qr = sym (div-mul_cancel g h.divides_second)

  pub quotient_positive : 0 < q / g
  quotient_positive = positive (q / g) qr
    where
      positive : (r : ℕ) → q ≡ r * g → 0 < r
      positive zero e = absurd (omega arith)
      positive (suc r) e = omega arith

  quotient_bound : q / g ≤ q
  quotient_bound = omega (arith, qr, mul-le-mul_left (q / g) gp)

  module _ (x a b e w : ℕ) where
    -- the least number of steps after which the first meets the second modulo q
    abbrev pub least : ℕ
    least = e / g * x % (q / g)

    -- the same, once the first is not before the second's start
    abbrev pub steps : ℕ
    steps = least + q / g * w

    pub least_bound : least < q / g
    least_bound = mod-lt (e / g * x) quotient_positive

    pub least_limit : p ≤ 64000000 → q ≤ 64000000 → least * p ≤ 64000000 * 64000000
    least_limit pm qm =
        let few : least ≤ 64000000 = omega (arith, least_bound, quotient_bound) in
        mul-le-mul few pm

    module _ (up : RoundedUp (b - (a + least * p)) (q / g * p) w) where
      -- one round of q / g steps less and the first is still before the second's start, or it is before its own
      pub reach : steps * p ≤ b + q / g * p
      reach = by w up
        where
          by : (w : ℕ) → RoundedUp (b - (a + least * p)) (q / g * p) w → (least + q / g * w) * p ≤ b + q / g * p
          by zero up = omega (arith, mul-le-mul_right p least_bound)
          by (suc w) up =
              ⊎_elim
              (λ (lt : w * (q / g * p) < b - (a + least * p)). omega arith)
              (λ (ge : b - (a + least * p) ≤ w * (q / g * p)). absurd (omega (arith, up.least w ge)))
              (cases_lt (w * (q / g * p)) (b - (a + least * p)))

      pub reach_limit : p ≤ 64000000 → q ≤ 64000000 → steps * p ≤ b + 64000000 * 64000000
      reach_limit pm qm =
          let few : q / g ≤ 64000000 = omega (arith, quotient_bound) in
          omega (arith, reach, mul-le-mul few pm)

      other_steps_bound : (j : ℕ) → a + steps * p ≡ b + j * q → j ≤ p + a
      other_steps_bound j same =
          let l : p / g ≤ p = omega (arith, pl, mul-le-mul_left (p / g) gp) in
          let rounds : q / g * p ≡ p / g * q = ap (λ c. q / g * c) pl ∙ omega (arith, ap (λ c. p / g * c) qr) in
          omega (arith, steps_bound j (p / g) q a qp (omega (arith, reach)))

      pub meeting : e ≡ gap q a b → (p * x) % q ≡ g % q → a % g ≡ b % g → Meet p a q b steps ((a + steps * p - b) / q)
      meeting value px same =
          let is = gap_is q a b qp in
          let m : ℕ = is.0 in
          let n : ℕ = is.1.0 in
          let far : b + m * q ≡ a + e + n * q = omega (arith, is.1.1) in
          let u : ℕ = e / g in
          let r : ℕ = q / g in
          let l : ℕ = p / g in
          let eu : e ≡ u * g = multiple e g (m * r + b / g) (n * r + a / g) (omega (arith, far, rest_multiples a b g same, ap (λ c. m * c) qr, ap (λ c. n * c) qr)) in
          let solved : p * x + q * (g / q) ≡ g + q * ((p * x) / q) = omega (arith, mod-add-div (p * x) q, mod-add-div g q) in
          let low = congruent p q g l r x a b e u least (u * x / r) ((p * x) / q) (g / q) m n pl qr (mod-add-div (u * x) r) solved eu far in
          let high = lifted p q g l r a b least w (l * (u * x / r) + u * (g / q) + n) (m + u * ((p * x) / q)) pl qr low in
          let whole = exact (a + steps * p) b q (l * (u * x / r) + u * (g / q) + n) (m + u * ((p * x) / q) + l * w) (omega (arith, up.enough)) high in
          record {
            same = whole;
            first_bound = omega (arith, steps_bound steps (q / g) p b pp reach, quotient_bound);
            second_bound = other_steps_bound ((a + steps * p - b) / q) whole;
          }

-- what the code finds: i steps of the first
pub record Found (p a q b i : ℕ) : Type 0 where
  pub reach : i * p ≤ b + 64000000 * 64000000
  pub meet : Meet p a q b i ((a + i * p - b) / q)

pub found : {p a q b g e behind w : ℕ} (x : ℕ) → Agree p a q b → Greatest p q g → e ≡ gap q a b → (p * x) % q ≡ g % q
    → behind ≡ b - (a + e / g * x % (q / g) * p) → w ≡ behind / (q / g * p) + min 1 (behind % (q / g * p)) → Found p a q b (e / g * x % (q / g) + q / g * w)
found {p} {a} {q} {b} {g} {e} {behind} {w} x k h value px away ceil =
    let size = mul-pos (quotient_positive p q g k.p_positive k.q_positive h) k.p_positive in
    let up = subst (λ (n : ℕ). RoundedUp n (q / g * p) w) away (rounded_up behind (q / g * p) w size ceil) in
    let rests = subst (λ (n : ℕ). a % n ≡ b % n) (sym ((divisor_is_determined p q).only g h)) k.rests in
    record {
      reach = reach_limit p q g k.p_positive k.q_positive h x a b e w up k.p_limit k.q_limit;
      meet = meeting p q g k.p_positive k.q_positive h x a b e w up value px rests;
    }

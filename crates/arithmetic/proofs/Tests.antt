-- The finite test of an overlap, and what follows of moving on and of rests.
use Rattle.std.proofs.Common.{◌≡◌, ℕ, ◌+◌, ◌-◌, ◌*◌, ◌/◌, ◌%◌, ◌<◌, ◌≤◌, max, true, leb, ◌⊎◌, ap, ◌∙◌, inl, inr, ⊎_elim, mul-le-mul_right, mod-lt, mod-eq_of_lt, lt_of_mul-lt-mul_right, arith}
use native.Mathlib.Nat.{mod-add-div, add-mul-mod_self_right, div-mul_cancel}
use Rattle.std.proofs.lemmas.Bool.{cases_lt, and_parts, and_from, leb-true, le-leb}
use Rattle.arithmetic.specs.Divisors.{Greatest, gcd}
use Rattle.arithmetic.specs.Laws.{every, gap, apart, moved_on, Common, ApartIsOneAfterTheOther, FiniteTestDecides, MovingOnAltersNothing, RestsMeetByTheDivisor}
use Rattle.arithmetic.specs.Occurrences.{begin, end, Overlap, Ever, Never}
use Rattle.arithmetic.proofs.Meetings.{gap_is, multiples_rest}
use Rattle.arithmetic.proofs.Windows.{gcd_greatest, gcd_positive, met, windows_repeat_after_the_divisor}

pub apart_is_one_after_the_other : ApartIsOneAfterTheOther
apart_is_one_after_the_other x y m n px py = (there, back)
  where
    there : (Overlap x m y n → ⊥) → (end x m ≤ begin y n) ⊎ (end y n ≤ begin x m)
    there no' =
        ⊎_elim
        (λ (l : begin y n < end x m).
        ⊎_elim
        (λ (r : begin x m < end y n).
        absurd (no' (max (begin x m) (begin y n), ((omega arith, omega (arith, px.lasts)), (omega arith, omega (arith, py.lasts))))))
        (λ (r : end y n ≤ begin x m). inr r)
        (cases_lt (begin x m) (end y n)))
        (λ (l : end x m ≤ begin y n). inl l)
        (cases_lt (begin y n) (end x m))

    back : (end x m ≤ begin y n) ⊎ (end y n ≤ begin x m) → Overlap x m y n → ⊥
    back (inl l) o = omega (arith, o.1.0, o.1.1)
    back (inr l) o = omega (arith, o.1.0, o.1.1)

-- the gap leaves room for both, so that nothing is between two neighbouring multiples
clear : (g s u t v d m n M N k : ℕ) → t + M * g ≡ s + d + N * g → d < g → u ≤ d → v ≤ g - d
    → s + m * g ≤ k → k < s + m * g + u → t + n * g ≤ k → k < t + n * g + v → ⊥
clear g s u t v d m n M N k is dg ud vd a b c e =
    let low : N + n < m + M = lt_of_mul-lt-mul_right g (omega arith) in
    let high : m + M < N + n + 1 = lt_of_mul-lt-mul_right g (omega arith) in
    omega arith

pub finite_test_decides : FiniteTestDecides
finite_test_decides x y px py = (there, back)
  where
    there : apart x y ≡ true → Never x y
    there e m n o =
        let g : ℕ = gcd x.repeat y.repeat in
        let d : ℕ = gap g x.start y.start in
        let gp : 0 < g = gcd_positive x.repeat y.repeat px.repeats in
        let parts = and_parts (leb x.span d) (leb y.span (g - d)) e in
        let is = gap_is g x.start y.start gp in
        let z = (windows_repeat_after_the_divisor x y px py).0 (m, (n, o)) in
        let w = z.1.1 in
        clear g x.start x.span y.start y.span d z.0 z.1.0 is.0 is.1.0 w.0 is.1.1
        (mod-lt (y.start + (g - x.start % g)) gp) (leb-true x.span d parts.0) (leb-true y.span (g - d) parts.1)
        w.1.0.0 w.1.0.1 w.1.1.0 w.1.1.1

    back : Never x y → apart x y ≡ true
    back never =
        let g : ℕ = gcd x.repeat y.repeat in
        let d : ℕ = gap g x.start y.start in
        let gp : 0 < g = gcd_positive x.repeat y.repeat px.repeats in
        let small : d < g = mod-lt (y.start + (g - x.start % g)) gp in
        let is = gap_is g x.start y.start gp in
        let m : ℕ = is.0 in
        let n : ℕ = is.1.0 in
        let not' : Ever (every g x) (every g y) → ⊥ = λ o. let z = (windows_repeat_after_the_divisor x y px py).1 o in never z.0 z.1.0 z.1.1 in
        let first : x.span ≤ d =
        ⊎_elim
        (λ (lt : d < x.span). absurd (not' (n, (m, (begin (every g y) m, ((omega (arith, is.1.1), omega (arith, is.1.1)), (omega arith, omega (arith, py.lasts))))))))
        (λ (le : x.span ≤ d). le) (cases_lt d x.span) in
        let second : y.span ≤ g - d =
        ⊎_elim
        (λ (lt : g - d < y.span). absurd (not' (n + 1, (m, (begin (every g x) (n + 1), ((omega arith, omega (arith, px.lasts)), (omega (arith, is.1.1), omega (arith, is.1.1))))))))
        (λ (le : y.span ≤ g - d). le) (cases_lt (g - d) y.span) in
        and_from (leb x.span d) (leb y.span (g - d)) (le-leb x.span d first) (le-leb y.span (g - d) second)

pub moving_on_alters_nothing : MovingOnAltersNothing
moving_on_alters_nothing x y px py = (there, back)
  where
    there : Ever (moved_on x) y → Ever x y
    there o = (o.0 + 1, (o.1.0, (o.1.1.0, ((omega (arith, o.1.1.1.0), omega (arith, o.1.1.1.0)), o.1.1.1.1))))

    back : Ever x y → Ever (moved_on x) y
    back o =
        let g : ℕ = gcd x.repeat y.repeat in
        let l : ℕ = x.repeat / g in
        let p : l * g ≡ x.repeat = div-mul_cancel g (gcd_greatest x.repeat y.repeat).divides_first in
        let z = (windows_repeat_after_the_divisor x y px py).0 o in
        let w = z.1.1 in
        (windows_repeat_after_the_divisor (moved_on x) y (record { repeats = px.repeats; lasts = px.lasts }) py).1
        (z.0, (z.1.0 + l, (w.0 + x.repeat, ((omega (arith, w.1.0), omega (arith, w.1.0)), (omega (arith, w.1.1), omega (arith, w.1.1))))))

pub rests_meet_by_the_divisor : RestsMeetByTheDivisor
rests_meet_by_the_divisor k t m u tk um = record { meet = there; agree = back }
  where
    below : (i : ℕ) → i ≤ m + u → t + i * k < 2 * (k * m)
    below i le =
        let few : i + 1 ≤ 2 * m = omega arith in
        omega (arith, mul-le-mul_right k few)

    there : t % gcd k m ≡ u % gcd k m → Common k t m u
    there same =
        let z = met k m t u (omega arith) (omega arith) same in
        let i : ℕ = z.0 in
        let first : (t + i * k) % k ≡ t = add-mul-mod_self_right t i k ∙ mod-eq_of_lt tk in
        let second : (t + i * k) % m ≡ u = ap (λ v. v % m) z.1.1.same ∙ add-mul-mod_self_right u z.1.0 m ∙ mod-eq_of_lt um in
        (t + i * k, (first, second, below i z.1.1.first_bound))

    back : (j : ℕ) → j % k ≡ t → j % m ≡ u → t % gcd k m ≡ u % gcd k m
    back j e f =
        let g : ℕ = gcd k m in
        let h : Greatest k m g = gcd_greatest k m in
        multiples_rest t u g (j / k * (k / g)) (j / m * (m / g))
        (omega (arith, mod-add-div j k, mod-add-div j m, ap (λ c. j / k * c) (div-mul_cancel g h.divides_first), ap (λ c. j / m * c) (div-mul_cancel g h.divides_second)))

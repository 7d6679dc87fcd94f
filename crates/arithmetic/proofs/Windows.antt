-- Overlaps over all occurrences: by the divisor of the repeats, by a finite test, and one repeat later.
use Rattle.std.proofs.Common.{◌≡◌, ℕ, ◌+◌, ◌-◌, ◌*◌, ◌/◌, ◌%◌, ◌<◌, ◌≤◌, min, sym, refl, ap, subst, ⊎_elim, mul-pos, arith}
use native.Mathlib.Nat.{div-mul_cancel, pos_of_dvd_of_pos}
use Rattle.std.proofs.lemmas.Bool.{cases_lt}
use Rattle.arithmetic.specs.Divisors.{Greatest, gcd}
use Rattle.arithmetic.specs.Laws.{Proper, every, gap, Early, OverlapsComeEarly, WindowsRepeatAfterTheDivisor}
use Rattle.arithmetic.specs.Meetings.{Meet}
use Rattle.arithmetic.specs.Occurrences.{Repeating, begin, Overlap, Ever}
use Rattle.arithmetic.proofs.Divisions.{rounded_up}
use Rattle.arithmetic.proofs.Factors.{identity, inverse, inverse_solves, divisor_is_determined}
use Rattle.arithmetic.proofs.Meetings.{multiples_rest, quotient_positive, meeting}

pub gcd_greatest : (p q : ℕ) → Greatest p q (gcd p q)
gcd_greatest p q = (divisor_is_determined p q).exists

pub gcd_positive : (p q : ℕ) → 0 < p → 0 < gcd p q
gcd_positive p q pos = pos_of_dvd_of_pos (gcd_greatest p q).divides_first pos

-- progressions that agree modulo the divisor of their steps meet
pub met : (p q a b : ℕ) → 0 < p → 0 < q → a % gcd p q ≡ b % gcd p q → (i : ℕ) × ((j : ℕ) × Meet p a q b i j)
met p q a b pp qp same =
    let r = (identity p q).0 in
    let h = (identity p q).1 in
    let g : ℕ = r.divisor in
    let x : ℕ = inverse q r in
    let is : g ≡ gcd p q = (divisor_is_determined p q).only g h.greatest in
    let size : ℕ = q / g * p in
    let e : ℕ = gap q a b in
    let behind : ℕ = b - (a + e / g * x % (q / g) * p) in
    let w : ℕ = behind / size + min 1 (behind % size) in
    let up = rounded_up behind size w (mul-pos (quotient_positive p q g pp qp h.greatest) pp) refl in
    let rests = subst (λ (g : ℕ). a % g ≡ b % g) (sym is) same in
    let z = meeting p q g pp qp h.greatest x a b e w up refl (inverse_solves p q r qp h) rests in
    (e / g * x % (q / g) + q / g * w, ((a + (e / g * x % (q / g) + q / g * w) * p - b) / q, z))

gcd_swap : (p q : ℕ) → gcd p q ≡ gcd q p
gcd_swap p q =
    let h = gcd_greatest p q in
    (divisor_is_determined q p).only (gcd p q) (record { divides_first = h.divides_second; divides_second = h.divides_first; greatest = λ d a b. h.greatest d b a })

-- an occurrence is one of those after each divisor too
down : (x y : Repeating) (g m n : ℕ) → g ≡ gcd x.repeat y.repeat → Overlap x m y n
    → Overlap (every g x) (m * (x.repeat / g)) (every g y) (n * (y.repeat / g))
down x y g m n e o =
    let h = subst (λ (g : ℕ). Greatest x.repeat y.repeat g) (sym e) (gcd_greatest x.repeat y.repeat) in
    let p = ap (λ c. m * c) (div-mul_cancel g h.divides_first) in
    let q = ap (λ c. n * c) (div-mul_cancel g h.divides_second) in
    (o.0, ((omega (arith, o.1.0), omega (arith, o.1.0)), (omega (arith, o.1.1), omega (arith, o.1.1))))

-- where y begins while x lasts, after some divisors, it does so after some repeats
up : (x y : Repeating) (g m n : ℕ) → Proper x → Proper y → g ≡ gcd x.repeat y.repeat → begin (every g x) m ≤ begin (every g y) n
    → Overlap (every g x) m (every g y) n → Early x y
up x y g m n px py e le o =
    let p : ℕ = x.repeat in
    let q : ℕ = y.repeat in
    let d : ℕ = begin (every g y) n - begin (every g x) m in
    let late : x.start + d + m * g ≡ y.start + n * g = omega arith in
    let short : d < x.span = omega (arith, o.1.0, o.1.1) in
    let rests = subst (λ (g : ℕ). (x.start + d) % g ≡ y.start % g) e (multiples_rest (x.start + d) y.start g m n late) in
    let z = met p q (x.start + d) y.start px.repeats py.repeats rests in
    let h = z.1.1 in record {
      first = z.0;
      second = z.1.0;
      overlap = (begin y z.1.0, ((omega (arith, h.same), omega (arith, h.same)), (omega arith, omega (arith, py.lasts))));
      first_bound = omega (arith, h.first_bound);
      second_bound = omega (arith, h.second_bound);
    }

swapped : (x y : Repeating) → Early x y → Early y x
swapped x y e = record {
  first = e.second;
  second = e.first;
  overlap = (e.overlap.0, (e.overlap.1.1, e.overlap.1.0));
  first_bound = e.second_bound;
  second_bound = e.first_bound;
}

pub early : (x y : Repeating) → Proper x → Proper y → let g = gcd x.repeat y.repeat in Ever (every g x) (every g y) → Early x y
early x y px py o =
    let g : ℕ = gcd x.repeat y.repeat in
    let m : ℕ = o.0 in
    let n : ℕ = o.1.0 in
    let t = o.1.1 in
    ⊎_elim
    (λ (lt : begin (every g y) n < begin (every g x) m).
    swapped y x (up y x g n m py px (gcd_swap x.repeat y.repeat) (omega arith) (t.0, (t.1.1, t.1.0))))
    (λ (le : begin (every g x) m ≤ begin (every g y) n). up x y g m n px py refl le t)
    (cases_lt (begin (every g y) n) (begin (every g x) m))

pub windows_repeat_after_the_divisor : WindowsRepeatAfterTheDivisor
windows_repeat_after_the_divisor x y px py = (there, back)
  where
    there : let g = gcd x.repeat y.repeat in Ever x y → Ever (every g x) (every g y)
    there o = let g : ℕ = gcd x.repeat y.repeat in (o.0 * (x.repeat / g), (o.1.0 * (y.repeat / g), down x y g o.0 o.1.0 refl o.1.1))

    back : let g = gcd x.repeat y.repeat in Ever (every g x) (every g y) → Ever x y
    back o = let e = early x y px py o in (e.first, (e.second, e.overlap))

pub overlaps_come_early : OverlapsComeEarly
overlaps_come_early x y px py o = early x y px py ((windows_repeat_after_the_divisor x y px py).0 o)

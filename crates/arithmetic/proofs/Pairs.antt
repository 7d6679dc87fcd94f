-- From entries to endless intervals, and from meetings to overlaps.
use Rattle.std.proofs.Common.{◌≡◌, ℕ, ◌+◌, ◌-◌, ◌*◌, ◌<◌, ◌≤◌, Bool, true, false, ◌&&◌, ltb, leb, MatchBool, MatchOption, sym, refl, ap, ◌∙◌, subst, ⊎_elim, mul-le-mul_right, arith}
use Rattle.std.proofs.lemmas.Bool.{le-leb, ltb-true, ltb-false, and_from, both_ways, cases_lt, cases_order}
use Rattle.arithmetic.specs.declared.entry.Entry.{Entry}
use Rattle.arithmetic.specs.declared.pair.OccurrencePair.{OccurrencePair}
use Rattle.arithmetic.specs.declared.progressions.Progression.{Progression}
use native.Mathlib.Nat.{le_of_dvd}
use Rattle.std.specs.Bool.{then_some}
use Rattle.arithmetic.specs.Divisors.{Greatest, gcd}
use Rattle.arithmetic.proofs.Factors.{divisor_is_determined}
use Rattle.arithmetic.specs.Entries.{endless, Overlapping, OverlappingItself}
use Rattle.arithmetic.specs.Laws.{Proper, gap, apart}
use Rattle.arithmetic.specs.Meetings.{Agree, Meet}
use Rattle.arithmetic.specs.Occurrences.{begin, Never, NeverItself}
use Rattle.arithmetic.proofs.Meetings.{gap_is, multiples_rest}
use Rattle.arithmetic.proofs.Tests.{finite_test_decides}

pub proper : (e : Entry) → Proper (endless e)
proper e = record { repeats = e.repeats; lasts = e.lasts }

-- an answer of the test says what it means
pub test_says : (a b : Entry) (r : Bool) → r ≡ apart (endless a) (endless b) → MatchBool r (Never (endless a) (endless b)) (apart (endless a) (endless b) ≡ false)
test_says a b true e = (finite_test_decides (endless a) (endless b) (proper a) (proper b)).0 (sym e)
test_says a b false e = sym e

-- the test's value, where the divisor and the gap are known
pub test_is : (a b : Entry) (g x : ℕ) → g ≡ gcd a.repeat b.repeat → x ≡ gap g a.start b.start
    → (leb a.span x && leb b.span (g - x)) ≡ apart (endless a) (endless b)
test_is a b g x eg ex =
    ap (λ x. leb a.span x && leb b.span (g - x)) ex
    ∙ ap (λ g. leb a.span (gap g a.start b.start) && leb b.span (g - gap g a.start b.start)) eg

pub and_known : (u d : ℕ) (t : Bool) → u ≤ d → t ≡ (leb u d && t)
and_known u d t le = sym (ap (λ b. b && t) (le-leb u d le))

-- the first span is above the gap, or the second above what is left of the divisor
pub not_apart : (a b : Entry) (g x : ℕ) → g ≡ gcd a.repeat b.repeat → x ≡ gap g a.start b.start
    → apart (endless a) (endless b) ≡ false → a.span ≤ x → g - x < b.span
not_apart a b g x eg ex no' le =
    ⊎_elim (λ (lt : g - x < b.span). lt)
    (λ (ge : b.span ≤ g - x).
    absurd (both_ways (apart (endless a) (endless b)) no' (sym (test_is a b g x eg ex) ∙ and_from (leb a.span x) (leb b.span (g - x)) (le-leb a.span x le) (le-leb b.span (g - x) ge))))
    (cases_lt (g - x) b.span)

-- the divisor of the repeats, as the code finds it
pub shared : (a b : Entry) (p q g : ℕ) → p ≡ a.repeat → q ≡ b.repeat → Greatest p q g → (g ≡ gcd a.repeat b.repeat) × (g ≤ 64000000)
shared a b p q g ep eq h =
    ((divisor_is_determined p q).only g h ∙ (λ i. gcd (ep i) (eq i)), omega (arith, le_of_dvd {n = p} (omega (arith, a.repeats)) h.divides_first, a.often))

-- when the occurrences begin, each so much later
abbrev beginnings : Entry → ℕ → Progression
beginnings e later = record { first = e.start + later; step = e.repeat }

-- they differ by multiples of the divisor
agree : (a b : Entry) (u v m n : ℕ) (p q : Progression) → p ≡ beginnings a u → q ≡ beginnings b v → u ≤ 64000000 → v ≤ 64000000
    → let g = gcd a.repeat b.repeat in a.start + u + m * g ≡ b.start + v + n * g → Agree p.step p.first q.step q.first
agree a b u v m n p q ep eq ul vl e =
    subst (λ (p : Progression). Agree p.step p.first q.step q.first) (sym ep)
    (subst (λ (q : Progression). Agree a.repeat (a.start + u) q.step q.first) (sym eq)
    (record {
      p_positive = a.repeats;
      p_limit = a.often;
      q_positive = b.repeats;
      q_limit = b.often;
      a_limit = omega (arith, a.early);
      b_limit = omega (arith, b.early);
      rests = multiples_rest (a.start + u) (b.start + v) (gcd a.repeat b.repeat) m n e;
    }))

-- b begins x after a, modulo g; and a begins g - x after b
pub agree_first : (a b : Entry) (g x : ℕ) (p q : Progression) → p ≡ beginnings a x → q ≡ beginnings b 0
    → g ≡ gcd a.repeat b.repeat → x ≡ gap g a.start b.start → g ≤ 64000000 → x < g → Agree p.step p.first q.step q.first
agree_first a b g x p q ep eq eg ex gl xg =
    let is = gap_is g a.start b.start (omega arith) in
    agree a b x 0 is.1.0 is.0 p q ep eq (omega arith) (omega arith)
    (subst (λ (g : ℕ). a.start + x + is.1.0 * g ≡ b.start + 0 + is.0 * g) eg (omega (arith, is.1.1)))

pub agree_second : (a b : Entry) (g x : ℕ) (p q : Progression) → p ≡ beginnings a 0 → q ≡ beginnings b (g - x)
    → g ≡ gcd a.repeat b.repeat → x ≡ gap g a.start b.start → g ≤ 64000000 → x < g → Agree p.step p.first q.step q.first
agree_second a b g x p q ep eq eg ex gl xg =
    let is = gap_is g a.start b.start (omega arith) in
    let v : ℕ = g - x in
    agree a b 0 v (is.1.0 + 1) is.0 p q ep eq (omega arith) (omega arith)
    (subst (λ (g : ℕ). a.start + 0 + (is.1.0 + 1) * g ≡ b.start + v + is.0 * g) eg (omega (arith, is.1.1)))

-- where they meet while both last, occurrences overlap
pub overlapping : (a b : Entry) (r : OccurrencePair) (u v : ℕ) (p q : Progression) → p ≡ beginnings a u → q ≡ beginnings b v → u < a.span → v < b.span
    → Meet p.step p.first q.step q.first r.first r.second → Overlapping (endless a) (endless b) r
overlapping a b r u v p q ep eq ua vb m =
    let h : Meet a.repeat (a.start + u) b.repeat (b.start + v) r.first r.second =
    subst (λ (q : Progression). Meet a.repeat (a.start + u) q.step q.first r.first r.second) eq
    (subst (λ (p : Progression). Meet p.step p.first q.step q.first r.first r.second) ep m) in
    record {
      overlap = (begin (endless a) r.first + u, ((omega arith, omega arith), (omega (arith, h.same), omega (arith, h.same))));
      first_limit = omega (arith, h.first_bound, b.early, b.often, b.short);
      second_limit = omega (arith, h.second_bound, a.early, a.often, a.short);
    }

-- of an entry's own occurrences, the later one begins at least one repeat after the earlier
one_repeat : (s p u m n t : ℕ) → u ≤ p → m < n → s + n * p ≤ t → t < s + m * p + u → ⊥
one_repeat s p u m n t le lt a b = omega (arith, mul-le-mul_right p lt)

never_itself : (a : Entry) → a.span ≤ a.repeat → NeverItself (endless a)
never_itself a le m n ne o =
    ⊎_elim (λ (e : m ≡ n). ne e)
    (⊎_elim
    (λ (lt : m < n). one_repeat a.start a.repeat a.span m n o.0 le lt o.1.1.0 o.1.0.1)
    (λ (lt : n < m). one_repeat a.start a.repeat a.span n m o.0 le lt o.1.0.0 o.1.1.1))
    (cases_order m n)

overlapping_itself : (a : Entry) → a.repeat < a.span → OverlappingItself (endless a) (record { first = 0; second = 1 })
overlapping_itself a lt = record {
  different = λ e. omega arith;
  overlapping = record {
    overlap = (begin (endless a) 1, ((omega arith, omega arith), (omega arith, omega (arith, a.lasts))));
    first_limit = omega arith;
    second_limit = omega arith;
  };
}

-- an occurrence lasts until the next one begins, or no two overlap
pub itself_says : (a : Entry) → MatchOption (then_some (ltb a.repeat a.span) (record { first = 0; second = 1 })) (NeverItself (endless a)) (OverlappingItself (endless a))
itself_says a = by (ltb a.repeat a.span) refl
  where
    by : (t : Bool) → ltb a.repeat a.span ≡ t → MatchOption (then_some t (record { first = 0; second = 1 })) (NeverItself (endless a)) (OverlappingItself (endless a))
    by true e = overlapping_itself a (ltb-true a.repeat a.span e)
    by false e = never_itself a (ltb-false a.repeat a.span e)

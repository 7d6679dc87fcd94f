-- What holds of endless repeating intervals, for all whole numbers.
use Rattle.std.specs.Prelude.{◌≡◌, ℕ, ◌+◌, ◌-◌, ◌*◌, ◌%◌, ◌<◌, ◌≤◌, Bool, ◌&&◌, ◌⊎◌, ◌↔◌, Decides, nat_le}
use Rattle.arithmetic.specs.Divisors.{gcd}
use Rattle.arithmetic.specs.Occurrences.{Repeating, begin, end, Overlap, Ever, Never}

-- it does repeat, and each occurrence lasts
pub record Proper (x : Repeating) : Type 0 where
  pub repeats : 0 < x.repeat
  pub lasts : 0 < x.span

-- Two occurrences keep apart exactly when one ends no later than the other begins.
abbrev pub ApartIsOneAfterTheOther : Type 0
ApartIsOneAfterTheOther =
    (x y : Repeating) (m n : ℕ) → Proper x → Proper y → (Overlap x m y n → ⊥) ↔ ((end x m ≤ begin y n) ⊎ (end y n ≤ begin x m))

-- the same starts and spans, with another repeat
abbrev pub every : ℕ → Repeating → Repeating
every g x = record { start = x.start; repeat = g; span = x.span }

-- Two overlap some time exactly when they would if both repeated after the greatest common divisor of their repeats:
-- each forbids the other a window of starts, again and again after that divisor.
abbrev pub WindowsRepeatAfterTheDivisor : Type 0
WindowsRepeatAfterTheDivisor =
    (x y : Repeating) → Proper x → Proper y → let g = gcd x.repeat y.repeat in Ever x y ↔ Ever (every g x) (every g y)

-- Two that overlap some time do so early: neither has gone on much further than the other's start and one repeat.
pub record Early (x y : Repeating) : Type 0 where
  pub first : ℕ
  pub second : ℕ
  pub overlap : Overlap x first y second
  pub first_bound : first ≤ y.repeat + y.start + y.span
  pub second_bound : second ≤ x.repeat + x.start + x.span

abbrev pub OverlapsComeEarly : Type 0
OverlapsComeEarly = (x y : Repeating) → Proper x → Proper y → Ever x y → Early x y

-- t minus s, modulo g
abbrev pub gap : ℕ → ℕ → ℕ → ℕ
gap g s t = (t + (g - s % g)) % g

-- the test that decides it: modulo g, the second starts no sooner than the first ends, and ends no later than the first starts again
abbrev pub apart : Repeating → Repeating → Bool
apart x y =
    let g = gcd x.repeat y.repeat in
    let d = gap g x.start y.start in nat_le x.span d && nat_le y.span (g - d)

abbrev pub FiniteTestDecides : Type 0
FiniteTestDecides = (x y : Repeating) → Proper x → Proper y → Decides (apart x y) (Never x y)

-- one repeat later
abbrev pub moved_on : Repeating → Repeating
moved_on x = record { start = x.start + x.repeat; repeat = x.repeat; span = x.span }

-- Moving one on by its repeat does not alter whether the two ever overlap, though its first occurrence is gone.
abbrev pub MovingOnAltersNothing : Type 0
MovingOnAltersNothing = (x y : Repeating) → Proper x → Proper y → Ever (moved_on x) y ↔ Ever x y

-- some number below 2 * (k * m) leaves the rest t by k and the rest u by m
abbrev pub Common : ℕ → ℕ → ℕ → ℕ → Type 0
Common k t m u = (j : ℕ) × ((j % k ≡ t) × (j % m ≡ u) × (j < 2 * (k * m)))

-- There is one exactly when the rests agree modulo the greatest common divisor of k and m.
pub record RestsMeet (k t m u : ℕ) : Type 0 where
  pub meet : t % gcd k m ≡ u % gcd k m → Common k t m u
  pub agree : (j : ℕ) → j % k ≡ t → j % m ≡ u → t % gcd k m ≡ u % gcd k m

abbrev pub RestsMeetByTheDivisor : Type 0
RestsMeetByTheDivisor = (k t m u : ℕ) → t < k → u < m → RestsMeet k t m u

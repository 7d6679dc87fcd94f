-- Endless repeating intervals, and when occurrences of two of them overlap. All times are whole microseconds.
use Rattle.std.specs.Prelude.{ℕ, ◌+◌, ◌*◌, ◌<◌, ◌≤◌, ◌≢◌}

pub record Repeating : Type 0 where
  pub start : ℕ
  pub repeat : ℕ
  pub span : ℕ

-- Occurrence m, for m = 0, 1, 2 and so on without end, begins m repeats after the start ..
abbrev pub begin : Repeating → ℕ → ℕ
begin x m = x.start + m * x.repeat

-- .. and occupies each moment from there up to, not including, its end.
abbrev pub end : Repeating → ℕ → ℕ
end x m = begin x m + x.span

abbrev pub Occupies : Repeating → ℕ → ℕ → Type 0
Occupies x m t = (begin x m ≤ t) × (t < end x m)

-- Occurrence m of x and occurrence n of y overlap: both occupy some moment.
abbrev pub Overlap : Repeating → ℕ → Repeating → ℕ → Type 0
Overlap x m y n = (t : ℕ) × (Occupies x m t × Occupies y n t)

-- Some occurrence of x and some occurrence of y overlap, however late.
abbrev pub Ever : Repeating → Repeating → Type 0
Ever x y = (m : ℕ) × ((n : ℕ) × Overlap x m y n)

-- None of x and none of y do, ever.
abbrev pub Never : Repeating → Repeating → Type 0
Never x y = (m n : ℕ) → Overlap x m y n → ⊥

-- No two different occurrences of x overlap.
abbrev pub NeverItself : Repeating → Type 0
NeverItself x = (m n : ℕ) → (m ≢ n) → Overlap x m x n → ⊥

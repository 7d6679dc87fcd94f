-- An entry of a timing table: its limits, and the endless intervals that it stands for.
use Rattle.std.specs.Prelude.{◌≡◌, ℕ, ◌<◌, ◌≤◌, ◌⊎◌}
use Rattle.arithmetic.specs.declared.entry.Entry.{Entry}
use Rattle.arithmetic.specs.declared.entry.OutOfLimits.{OutOfLimits}
use Rattle.arithmetic.specs.declared.entry.OutOfLimits.TheVariants.{Start, Repeat, Span}
use Rattle.arithmetic.specs.declared.pair.OccurrencePair.{OccurrencePair}
use Rattle.arithmetic.specs.Occurrences.{Repeating, Overlap}

abbrev pub endless : Entry → Repeating
endless e = record { start = e.start; repeat = e.repeat; span = e.span }

-- the limits of an entry's figures
pub record Within (start repeat span : ℕ) : Type 0 where
  pub early : start ≤ 100000000
  pub repeats : 0 < repeat
  pub often : repeat ≤ 64000000
  pub lasts : 0 < span
  pub short : span ≤ 1000000

-- The entry has these figures. They are within their limits, since the type of an entry keeps them.
pub record Made (start repeat span : ℕ) (e : Entry) : Type 0 where
  pub same_start : e.start ≡ start
  pub same_repeat : e.repeat ≡ repeat
  pub same_span : e.span ≡ span
  pub within : Within start repeat span

abbrev pub Outside : ℕ → ℕ → Type 0
Outside most n = (n ≡ 0) ⊎ (most < n)

-- The figure is outside its limits, and those before it are within theirs.
abbrev pub Refused : ℕ → ℕ → ℕ → OutOfLimits → Type 0
Refused start repeat span (Start n) = (n ≡ start) × (100000000 < start)
Refused start repeat span (Repeat n) = (n ≡ repeat) × (start ≤ 100000000) × Outside 64000000 repeat
Refused start repeat span (Span n) = (n ≡ span) × (start ≤ 100000000) × (0 < repeat) × (repeat ≤ 64000000) × Outside 1000000 span

-- The occurrences of x and y with these numbers overlap, and the numbers are below 30,000,000,000.
pub record Overlapping (x y : Repeating) (p : OccurrencePair) : Type 0 where
  pub overlap : Overlap x p.first y p.second
  pub first_limit : p.first < 30000000000
  pub second_limit : p.second < 30000000000

-- The same of two different occurrences of x.
pub record OverlappingItself (x : Repeating) (p : OccurrencePair) : Type 0 where
  pub different : p.first ≡ p.second → ⊥
  pub overlapping : Overlapping x x p

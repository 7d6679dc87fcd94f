-- What every kind of resource keeps, and what follows for all time.
use Rattle.std.specs.Prelude.{◌≡◌, ℕ, ◌+◌, ◌*◌, ◌<◌, ◌≤◌, true, false, ◌⊎◌, List, Some, None}
use Rattle.kinds.specs.Relations.{Relations}

-- not 1 to the most
abbrev pub Outside : ℕ → ℕ → Type 0
Outside most n = (n ≡ 0) ⊎ (most < n)

pub record Laws (r : Relations) : Type 0 where
  -- a span is 1 to 1,000,000
  pub span_limits : (k : ℕ) (ns : List ℕ) (d e : ℕ) → r.span k ns d ≡ Some e → (1 ≤ e) × (e ≤ 1000000)
  -- a start is admitted exactly when the start one repeat later is
  pub repeats : (k : ℕ) (ns : List ℕ) (d p s : ℕ) → r.admits k ns d p (s + p) ≡ r.admits k ns d p s
  -- bars is symmetric
  pub symmetric : (k : ℕ) (ns : List ℕ) (s a t b : ℕ) → r.bars k ns s a t b ≡ r.bars k ns t b s a
  -- for admitted starts, moving one on by its repeat alters no bar; by symmetry, neither does moving the other
  pub moves : (k : ℕ) (ns : List ℕ) (d p s a e q t b : ℕ) → r.admits k ns d p s ≡ true → r.admits k ns e q t ≡ true
      → r.bars k ns (s + p) a t b ≡ r.bars k ns s a t b
  -- only a known number can be sound
  pub sound_is_known : (k : ℕ) (ns : List ℕ) → r.sound k ns ≡ true → r.known k ≡ true
  -- an unsound resource takes nothing and bars nothing
  pub unsound_takes_nothing : (k : ℕ) (ns : List ℕ) (d : ℕ) → r.sound k ns ≡ false → r.span k ns d ≡ None
  pub unsound_bars_nothing : (k : ℕ) (ns : List ℕ) (s a t b : ℕ) → r.sound k ns ≡ false → r.bars k ns s a t b ≡ false
  -- a demand outside 1 to 1,000,000 is not taken
  pub demand_limits : (k : ℕ) (ns : List ℕ) (d : ℕ) → Outside 1000000 d → r.span k ns d ≡ None
  -- a repeat outside 1 to 64,000,000 admits nothing, and neither does a demand that is not taken
  pub repeat_limits : (k : ℕ) (ns : List ℕ) (d p s : ℕ) → Outside 64000000 p → r.admits k ns d p s ≡ false
  pub untaken_is_not_admitted : (k : ℕ) (ns : List ℕ) (d p s : ℕ) → r.span k ns d ≡ None → r.admits k ns d p s ≡ false

-- Any number of repeats later an admitted start is still admitted, and a bar is what it was.
pub record Lasting (r : Relations) : Type 0 where
  pub admitted_for_ever : (k : ℕ) (ns : List ℕ) (d p s m : ℕ) → r.admits k ns d p (s + m * p) ≡ r.admits k ns d p s
  pub barred_for_ever : (k : ℕ) (ns : List ℕ) (d p s a e q t b m n : ℕ) → r.admits k ns d p s ≡ true → r.admits k ns e q t ≡ true
      → r.bars k ns (s + m * p) a (t + n * q) b ≡ r.bars k ns s a t b

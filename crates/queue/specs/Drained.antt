-- All records of a queue, taken out one after the other.
use Rattle.std.specs.Prelude.{◌≡◌, ℕ, ◌<◌, ◌≤◌, Bool, ◌⊎◌, List, reverse, length, take, drop}
use Rattle.queue.specs.Heaps.{Heaped, contents}
use Rattle.queue.specs.declared.draining.NotDrained.{NotDrained}
use Rattle.queue.specs.declared.draining.NotDrained.TheVariants.{CountTooHigh, OutTooShort}

-- q and out became q' and out'
pub record Drained {X : Type 0} (before : X → X → Bool) (q : List X) (n : ℕ) (out q' out' : List X) : Type 0 where
  pub within : n ≤ length q
  pub room : n ≤ length out
  -- the records stand in the order of their rank
  pub in_order : Heaped before q n → take n out' ≡ contents before q n
  -- and backwards in the places that the queue had
  pub left : take n q' ≡ reverse (take n out')
  pub beyond : drop n q' ≡ drop n q
  pub out_beyond : drop n out' ≡ drop n out

pub record Refused {X : Type 0} (q : List X) (n : ℕ) (out q' out' : List X) : Type 0 where
  pub short : (length q < n) ⊎ (length out < n)
  pub same : q' ≡ q
  pub out_same : out' ≡ out

-- what the error says; of a count beyond the slice it is told first
abbrev pub Because : {X : Type 0} → List X → ℕ → List X → NotDrained → Type 0
Because q n out CountTooHigh = length q < n
Because q n out OutTooShort = (n ≤ length q) × (length out < n)

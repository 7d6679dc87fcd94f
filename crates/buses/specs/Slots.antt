-- When a bus serves a demand with its repeat, and its first slot from a start on.
use Rattle.std.specs.Prelude.{◌≡◌, ℕ, ◌%◌, ◌<◌, ◌≤◌, Bool, true, false, ◌&&◌, List, ◌==◌, slice_index}
use Rattle.buses.specs.Bus.{bus_parts, at_slot}
use Rattle.kinds.specs.Parts.{takes, repeated}

-- the demand is taken, and the repeat is within its limits and a multiple of the cycle
abbrev pub serves : ℕ → List ℕ → ℕ → ℕ → Bool
serves k ns d p = takes bus_parts k ns d && (repeated p && p % slice_index ns 0 == 0)

-- the first beginning of a slot from a start on, where the cycle is c with m slots of length l

pub record FirstSlot (c m l from r : ℕ) : Type 0 where
  pub onward : from ≤ r
  pub begins : at_slot c m l r ≡ true
  pub none_before : (s : ℕ) → from ≤ s → s < r → at_slot c m l s ≡ false

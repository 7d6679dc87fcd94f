-- What a stepping kind answers.
use Rattle.std.specs.Prelude.{◌≡◌, ℕ, ◌<◌, ◌≤◌, Bool, true, false, ◌⊎◌, Some, None, Option}

-- The smallest admitted start from a given start on: it is admitted, and none before it is. Or that none exists.
-- For a given start above 4,000,000,000 none is answered.
abbrev pub Smallest : (ℕ → Bool) → ℕ → Option ℕ → Type 0
Smallest admitted from None = (4000000000 < from) ⊎ ((s : ℕ) → from ≤ s → admitted s ≡ false)
Smallest admitted from (Some t) =
    (from ≤ 4000000000) × (from ≤ t) × (admitted t ≡ true) × ((s : ℕ) → from ≤ s → s < t → admitted s ≡ false)

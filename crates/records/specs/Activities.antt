-- An activity: what it belongs to, where it runs, and how.
use Rattle.std.specs.Prelude.{ℕ, ◌^◌, ◌<◌, List, ◌∷◌, ◌++◌, slice_index}
use Rattle.fields.specs.Bytes.{four_at, four_of}
use Rattle.records.specs.declared.activity.Activity.{Activity}

abbrev pub activity_in : List ℕ → Activity
activity_in xs = record { application = slice_index xs 0; resource = slice_index xs 1; sender = slice_index xs 2; turns = slice_index xs 3; demand = four_at xs 4; jitter = four_at xs 8 }

abbrev pub activity_bytes : Activity → List ℕ
activity_bytes x = x.application ∷ x.resource ∷ x.sender ∷ x.turns ∷ four_of x.demand ++ (four_of x.jitter)

-- each number of several bytes fits its type
abbrev pub ActivityFits : Activity → Type 0
ActivityFits x = (x.demand < 2 ^ 32) × (x.jitter < 2 ^ 32)

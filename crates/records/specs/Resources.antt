-- A resource: a kind number and its four numbers.
use Rattle.std.specs.Prelude.{◌≡◌, ℕ, ◌^◌, ◌<◌, List, [], ◌∷◌, ◌++◌, length, slice_index}
use Rattle.fields.specs.Bytes.{two_at, four_at, two_of, four_of}
use Rattle.records.specs.declared.resource.Resource.{Resource}

abbrev pub resource_in : List ℕ → Resource
resource_in xs = record { kind = two_at xs 0; numbers = four_at xs 2 ∷ four_at xs 6 ∷ four_at xs 10 ∷ four_at xs 14 ∷ [] }

abbrev pub resource_bytes : Resource → List ℕ
resource_bytes x = two_of x.kind ++ (four_of (slice_index x.numbers 0) ++ (four_of (slice_index x.numbers 1) ++ (four_of (slice_index x.numbers 2) ++ (four_of (slice_index x.numbers 3)))))

-- each number of several bytes fits its type
abbrev pub ResourceFits : Resource → Type 0
ResourceFits x = (x.kind < 2 ^ 16) × (length x.numbers ≡ 4) × (slice_index x.numbers 0 < 2 ^ 32) × (slice_index x.numbers 1 < 2 ^ 32) × (slice_index x.numbers 2 < 2 ^ 32) × (slice_index x.numbers 3 < 2 ^ 32)

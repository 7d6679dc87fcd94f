-- The beginning of a file: its version, and the label that ties tables to their plan.
use Rattle.std.specs.Prelude.{ℕ, ◌^◌, ◌<◌, List, ◌++◌}
use Rattle.fields.specs.Bytes.{two_at, four_at, two_of, four_of}
use Rattle.records.specs.declared.header.Header.{Header}

abbrev pub header_in : List ℕ → Header
header_in xs = record { version = two_at xs 0; label = four_at xs 2 }

abbrev pub header_bytes : Header → List ℕ
header_bytes x = two_of x.version ++ (four_of x.label)

-- each number of several bytes fits its type
abbrev pub HeaderFits : Header → Type 0
HeaderFits x = (x.version < 2 ^ 16) × (x.label < 2 ^ 32)

-- An application: its period and its latency bound.
use Rattle.std.specs.Prelude.{ℕ, ◌^◌, ◌<◌, List, ◌++◌}
use Rattle.fields.specs.Bytes.{four_at, four_of}
use Rattle.records.specs.declared.application.ApplicationField.{ApplicationField}

abbrev pub application_in : List ℕ → ApplicationField
application_in xs = record { period = four_at xs 0; bound = four_at xs 4 }

abbrev pub application_bytes : ApplicationField → List ℕ
application_bytes x = four_of x.period ++ (four_of x.bound)

-- each number of several bytes fits its type
abbrev pub ApplicationFits : ApplicationField → Type 0
ApplicationFits x = (x.period < 2 ^ 32) × (x.bound < 2 ^ 32)

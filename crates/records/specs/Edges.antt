-- An edge from one activity to another.
use Rattle.std.specs.Prelude.{ℕ, ◌^◌, ◌<◌, List, ◌++◌}
use Rattle.fields.specs.Bytes.{two_at, two_of}
use Rattle.records.specs.declared.edge.Edge.{Edge}

abbrev pub edge_in : List ℕ → Edge
edge_in xs = record { from = two_at xs 0; to = two_at xs 2 }

abbrev pub edge_bytes : Edge → List ℕ
edge_bytes x = two_of x.from ++ (two_of x.to)

-- each number of several bytes fits its type
abbrev pub EdgeFits : Edge → Type 0
EdgeFits x = (x.from < 2 ^ 16) × (x.to < 2 ^ 16)

-- A row of a table: a cell and its offset.
use Rattle.std.specs.Prelude.{ℕ, ◌^◌, ◌<◌, List, ◌∷◌, ◌++◌, slice_index}
use Rattle.fields.specs.Bytes.{two_at, four_at, two_of, four_of}
use Rattle.records.specs.declared.cell.CellField.{CellField}

abbrev pub cell_in : List ℕ → CellField
cell_in xs = record { activity = two_at xs 0; turn = slice_index xs 2; offset = four_at xs 3 }

abbrev pub cell_bytes : CellField → List ℕ
cell_bytes x = two_of x.activity ++ (x.turn ∷ four_of x.offset)

-- each number of several bytes fits its type
abbrev pub CellFits : CellField → Type 0
CellFits x = (x.activity < 2 ^ 16) × (x.offset < 2 ^ 32)

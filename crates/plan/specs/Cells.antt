-- The cells of a plan: one for each turn of each activity, in order of activity and turn.
use Rattle.std.specs.Prelude.{ℕ, zero, suc, ◌+◌, Bool, true, false, ◌&&◌, List, [], ◌∷◌, ◌++◌, map, None, ◌==◌}
use Rattle.model.specs.declared.cell.Cell.{Cell}
use Rattle.model.specs.declared.cell.CellId.{CellId}
use Rattle.records.specs.declared.activity.Activity.{Activity}

-- the turns of an activity, from 0 on
abbrev pub turn_ids : ℕ → ℕ → List CellId
turn_ids activity zero = []
turn_ids activity (suc turns) = turn_ids activity turns ++ (record { activity = activity; turn = turns }) ∷ []

-- of activities that are numbered from `first` on
abbrev pub cell_ids : ℕ → List Activity → List CellId
cell_ids first [] = []
cell_ids first (a ∷ rest) = turn_ids first a.turns ++ cell_ids (first + 1) rest

-- these cells are those, in this order
abbrev pub same_ids : List Cell → List CellId → Bool
same_ids [] [] = true
same_ids [] (i ∷ ids) = false
same_ids (c ∷ cells) [] = false
same_ids (c ∷ cells) (i ∷ ids) = (c.id.activity == i.activity && c.id.turn == i.turn) && same_ids cells ids

abbrev pub empty_cell : CellId → Cell
empty_cell c = record { id = c; offset = None }

abbrev pub empty_cells : List Activity → List Cell
empty_cells activities = map empty_cell (cell_ids 0 activities)

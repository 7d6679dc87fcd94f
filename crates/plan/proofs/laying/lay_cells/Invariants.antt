use Rattle.std.proofs.Common.{◌≡◌, take, vec_items, vec_len, vec_capacity}
use Rattle.description.specs.Limits.{cell_count}
use Rattle.plan.specs.Cells.{empty_cells}
use Rattle.plan.proofs.laying.lay_cells.Given as goal

abbrev pub invariant-loop-i : goal.invariant-loop-i
invariant-loop-i l =
    (vec_items l.cells ≡ empty_cells (take l.i l.activities))
    × (vec_len l.cells ≡ cell_count (take l.i l.activities))
    × (vec_capacity l.cells ≡ vec_capacity l.initial.cells)

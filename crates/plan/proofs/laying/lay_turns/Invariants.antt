use Rattle.std.proofs.Common.{◌≡◌, ◌+◌, ◌++◌, map, vec_items, vec_len, vec_capacity}
use Rattle.plan.specs.Cells.{empty_cell, turn_ids}
use Rattle.plan.proofs.laying.lay_turns.Given as goal

abbrev pub invariant-loop-turn : goal.invariant-loop-turn
invariant-loop-turn l =
    (vec_items l.cells ≡ vec_items l.initial.cells ++ map empty_cell (turn_ids l.activity l.turn))
    × (vec_len l.cells ≡ vec_len l.initial.cells + l.turn)
    × (vec_capacity l.cells ≡ vec_capacity l.initial.cells)

use Rattle.std.proofs.Common.{◌+◌, ◌++◌, map, get_or, sym, ap, ◌∙◌, arith}
use Rattle.description.specs.Descriptions.{no_activity}
use Rattle.plan.specs.Cells.{empty_cell, turn_ids}
use Rattle.plan.proofs.CellLists.{cells_more, count_more, count_of_some}
use Rattle.plan.proofs.laying.lay_cells.Goals as goal

pub lay_turns-requires : goal.lay_turns-requires
lay_turns-requires c =
    let xs = c.args.activities.now in
    let i = c.loop-i.i in
    let more = count_more xs i c.loop-i-test.true in
    let all = count_of_some (i + 1) xs in
    omega (arith, c.loop-i.invariant.1, c.loop-i.invariant.2, c.clear.ensures.capacity)

pub loop-i-preserved : goal.loop-i-preserved
loop-i-preserved c =
    let xs = c.args.activities.now in
    let i = c.loop-i.i in
    let k = (get_or xs i no_activity).turns in (
      c.lay_turns.ensures.items
          ∙ ap (λ l. l ++ map empty_cell (turn_ids i k)) c.loop-i.invariant.0
          ∙ sym (cells_more xs i c.loop-i-test.true),
      c.lay_turns.ensures.len ∙ ap (λ n. n + k) c.loop-i.invariant.1 ∙ sym (count_more xs i c.loop-i-test.true),
      c.lay_turns.ensures.capacity ∙ c.loop-i.invariant.2,
    )

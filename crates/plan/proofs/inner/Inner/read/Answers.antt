use Rattle.std.proofs.Common.{◌<◌, vec_items, ap, ◌∙◌, arith}
use Rattle.std.proofs.ByRecursion.{All-from_get_or}
use Rattle.reader.specs.Described.{described}
use Rattle.plan.specs.Cells.{cell_ids, empty_cells, same_ids}
use Rattle.plan.proofs.CellLists.{same_empty}
use Rattle.plan.proofs.Meaning.{meaning}
use Rattle.plan.proofs.inner.Inner.read.Goals as goal

pub invariant_of-self-2 : goal.invariant_of-self-2
invariant_of-self-2 g c =
    let activities = vec_items c.read-answer.new.self.activities in
    let items = c.lay_cells.ensures.items ∙ ap empty_cells c.as_slice.ensures.value in record {
      room = omega (arith, c.lay_cells.ensures.capacity, c.clear.ensures.capacity, c.args.self.now.room);
      laid = λ _. ap (λ l. same_ids l (cell_ids 0 activities)) items ∙ same_empty (cell_ids 0 activities);
    }

pub returns-clause-meaning : goal.returns-clause-meaning
returns-clause-meaning g c =
    meaning c.read-answer.result (g.K.Kind.relations c.args.kind.now) c.args.input.now (described c.read-answer.new.self) (All-from_get_or (λ b. b < 256) c.args.input.now 0 (λ i _. (c.type_inv.input i).fits)) c.read-answer.ensures

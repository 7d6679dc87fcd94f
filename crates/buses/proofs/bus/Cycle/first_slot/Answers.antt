use Rattle.std.proofs.Common.{rules}
use Rattle.arithmetic.proofs.Divisions.{rounded_up}
use Rattle.buses.proofs.SlotLaws.{same_cycle, next_cycle}
use Rattle.buses.proofs.bus.Cycle.first_slot.Goals as goal

pub returns-then-slot-self : goal.returns-then-slot-self
returns-then-slot-self c = search (rules, same_cycle, rounded_up)

pub returns-else-slot-self : goal.returns-else-slot-self
returns-else-slot-self c = search (rules, next_cycle, rounded_up)

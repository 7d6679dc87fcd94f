use Rattle.std.proofs.Common.{◌≡◌, ℕ, suc, ◌+◌, ◌-◌, ◌≤◌, length}
use Rattle.description.specs.Reader.{reads}
use Rattle.reader.specs.Described.{reading_of, Roomy}
use Rattle.reader.proofs.memory.Description.read_fields.Given as goal

-- with some bound that is not used up, what is left gives the answer of the whole
abbrev pub invariant-loop-at : goal.invariant-loop-at
invariant-loop-at g l =
    Roomy l.self l.stage
    × (n : ℕ) × (length l.input ≤ l.at + n)
    × (reads (g.K.Kind.relations l.kind) l.input (suc n) (reading_of l.self l.stage) l.at
    ≡ reads (g.K.Kind.relations l.kind) l.input (suc (length l.input)) (reading_of l.initial.self l.initial.stage) l.initial.at)

abbrev pub decreases-loop-at : goal.decreases-loop-at
decreases-loop-at g l = length l.input - l.at

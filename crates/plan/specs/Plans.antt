-- What a plan holds, and what opening it does.
use Rattle.std.specs.Prelude.{◌≡◌, ℕ, List, Ok, Err, vec_items, Result, ◌≢◌}
use Rattle.kinds.specs.Relations.{Relations}
use Rattle.model.specs.declared.cell.Cell.{Cell}
use Rattle.model.specs.declared.refusal.Refusal.{Refusal}
use Rattle.description.specs.Descriptions.{Description}
use Rattle.description.specs.Limits.{Within}
use Rattle.description.specs.Written.{written}
use Rattle.reader.specs.Described.{described}
use Rattle.plan.specs.declared.inner.Inner.{Inner}

-- what it describes, and its cells
abbrev pub plan_of : Inner → Description
plan_of p = described p.description

abbrev pub cells_of : Inner → List Cell
cells_of p = vec_items p.cells

-- In the subject's words: accepted, the file is the written form of what the plan describes, which is within all limits; refused, it
-- is the written form of no description within the limits.
abbrev pub Means : Result (Unit {0}) Refusal → Relations → List ℕ → Description → Type 0
Means (Ok x) r input plan = (input ≡ written plan) × Within r plan
Means (Err e) r input plan = (d : Description) → Within r d → input ≢ written d

-- The line that tells how a plan was opened.
use Rattle.std.specs.Prelude.{ℕ, List, [], ◌∷◌, Ok, Err, codes, Result}
use Rattle.model.specs.declared.refusal.Refusal.{Refusal}
use Rattle.model.specs.Lines.{line_of}
use Rattle.model.specs.Refusals.{numbers_of}
use Rattle.plan.specs.declared.describing.Counts.{Counts}

abbrev pub opening_line : Result (Unit {0}) Refusal → Counts → List ℕ
opening_line (Ok x) n = line_of (codes "OK") (n.resources ∷ n.applications ∷ n.activities ∷ n.cells ∷ n.edges ∷ [])
opening_line (Err e) n = line_of (codes "NO") (numbers_of e)

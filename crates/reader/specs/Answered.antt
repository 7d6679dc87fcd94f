-- What opening a plan file answers.
use Rattle.std.specs.Prelude.{◌≡◌, ℕ, List, Ok, Err, Result}
use Rattle.kinds.specs.Relations.{Relations}
use Rattle.model.specs.declared.refusal.Refusal.{Refusal}
use Rattle.description.specs.Descriptions.{Description, nothing}
use Rattle.description.specs.Reader.{opened}

-- The answer to a file is the one that its definition gives: accepted, what is described then is what the file says; refused, nothing
-- is described.
abbrev pub Answers : Result (Unit {0}) Refusal → Relations → List ℕ → Description → Type 0
Answers (Ok x) r input described = opened r input ≡ Ok described
Answers (Err e) r input described = (opened r input ≡ Err e) × (described ≡ nothing)

-- Which files are plan files, in the subject's words.
use Rattle.std.specs.Prelude.{◌≡◌, ℕ, ◌<◌, List, Ok}
use Rattle.std.specs.List.{AllByRecursion}
use Rattle.kinds.specs.Relations.{Relations}
use Rattle.description.specs.Descriptions.{Description}
use Rattle.description.specs.Limits.{Within}
use Rattle.description.specs.Reader.{opened}
use Rattle.description.specs.Written.{written}

-- A file opens to a description exactly when it is the written form of that description, and the description is within all limits.
abbrev pub Exact : Relations → List ℕ → Type 0
Exact r input =
    (d : Description) → (opened r input ≡ Ok d → (input ≡ written d) × Within r d) × (Within r d → input ≡ written d → opened r input ≡ Ok d)

abbrev pub OpeningIsExact : Type 0
OpeningIsExact = (r : Relations) (input : List ℕ) → AllByRecursion (λ b. b < 256) input → Exact r input

-- Two descriptions within the limits that have the same written form are equal.
abbrev pub WrittenFormTells : Type 0
WrittenFormTells = (r : Relations) (d e : Description) → Within r d → Within r e → written d ≡ written e → d ≡ e

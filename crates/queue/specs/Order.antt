-- The records of a list in the order of their rank.
use Rattle.std.specs.Prelude.{◌≡◌, Bool, false, cond, List, [], ◌∷◌}
use Rattle.std.specs.List.{AllByRecursion}
use Rattle.std.specs.List.Sorted.{IsPermutation}

-- a record is put before the first that it ranks before
abbrev pub insert : {X : Type 0} → (X → X → Bool) → X → List X → List X
insert before x [] = x ∷ []
insert before x (y ∷ ys) = cond (before y x) (y ∷ insert before x ys) (x ∷ y ∷ ys)

abbrev pub ranked : {X : Type 0} → (X → X → Bool) → List X → List X
ranked before [] = []
ranked before (x ∷ xs) = insert before x (ranked before xs)

-- none ranks before one that stands before it
abbrev pub InOrder : {X : Type 0} → (X → X → Bool) → List X → Type 0
InOrder before [] = Unit {0}
InOrder before (x ∷ xs) = AllByRecursion (λ y. before y x ≡ false) xs × InOrder before xs

-- The list in order of rank is the only one in order with the same elements.
pub record OrderIsDetermined {X : Type 0} (before : X → X → Bool) : Type 0 where
  pub in_order : (xs : List X) → InOrder before (ranked before xs)
  pub only : (xs ys : List X) → IsPermutation xs ys → InOrder before ys → ys ≡ ranked before xs

-- Writing one value into place after place.
use Rattle.std.proofs.Common.{◌≡◌, List, [], ◌∷◌, length, replicate, refl, subst}
use Rattle.std.specs.List.{FoldsTo}

-- what calls that always give this item, and change nothing, write
pub filled : {P X : Type 0} (R : P → X → P → Type 0) (item : X) (f g : P) (xs : List X) → ((x : X) (q : P) → R f x q → (q ≡ f) × (x ≡ item)) → FoldsTo R f xs g → xs ≡ replicate (length xs) item
filled R item f g [] h run = refl
filled R item f g (x ∷ xs) h run =
    let one = h x run.0 run.1 in
    let rest = filled R item f g xs h (subst (λ p. FoldsTo R p xs g) one.0 run.2) in
    λ i. one.1 i ∷ rest i

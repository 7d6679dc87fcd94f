-- The cells of a plan, one turn and one activity after the other.
use Rattle.std.proofs.Common.{◌≡◌, ℕ, zero, suc, ◌+◌, ◌<◌, ◌≤◌, true, List, [], ◌∷◌, ◌++◌, map, length, get_or, take, sym, refl, ap, ◌∙◌, arith}
use Rattle.std.proofs.lemmas.List.{append_assoc, append-nil, length-take-le, map-append, take_more}
use Rattle.std.proofs.lemmas.Bool.{and_from, eq-eqb}
use Rattle.model.specs.declared.cell.CellId.{CellId}
use Rattle.records.specs.declared.activity.Activity.{Activity}
use Rattle.description.specs.Descriptions.{no_activity}
use Rattle.description.specs.Limits.{cell_count}
use Rattle.reader.proofs.Pushing.{cell_count-push}
use Rattle.plan.specs.Cells.{turn_ids, cell_ids, same_ids, empty_cell, empty_cells}

-- one activity more
cell_ids-push : (n : ℕ) (xs : List Activity) (x : Activity) → cell_ids n (xs ++ x ∷ []) ≡ cell_ids n xs ++ turn_ids (n + length xs) x.turns
cell_ids-push n [] x = append-nil (turn_ids n x.turns) ∙ ap (λ m. turn_ids m x.turns) (omega arith)
cell_ids-push n (y ∷ xs) x =
    ap (λ l. turn_ids n y.turns ++ l) (cell_ids-push (n + 1) xs x ∙ ap (λ m. cell_ids (n + 1) xs ++ turn_ids m x.turns) (omega arith))
    ∙ sym (append_assoc (turn_ids n y.turns) (cell_ids (n + 1) xs) (turn_ids (n + suc (length xs)) x.turns))

module _ (xs : List Activity) (i : ℕ) (lt : i < length xs) where
  pub cells_more : empty_cells (take (i + 1) xs) ≡ empty_cells (take i xs) ++ map empty_cell (turn_ids i (get_or xs i no_activity).turns)
  cells_more =
      ap empty_cells (take_more xs i no_activity lt)
      ∙ ap (map empty_cell) (cell_ids-push 0 (take i xs) (get_or xs i no_activity))
      ∙ map-append empty_cell (cell_ids 0 (take i xs)) (turn_ids (0 + length (take i xs)) (get_or xs i no_activity).turns)
      ∙ ap (λ n. empty_cells (take i xs) ++ map empty_cell (turn_ids n (get_or xs i no_activity).turns)) (omega (arith, length-take-le i xs))

  pub count_more : cell_count (take (i + 1) xs) ≡ cell_count (take i xs) + (get_or xs i no_activity).turns
  count_more = ap cell_count (take_more xs i no_activity lt) ∙ cell_count-push (take i xs) (get_or xs i no_activity)

-- some of the cells are not more than all
pub count_of_some : (n : ℕ) (xs : List Activity) → cell_count (take n xs) ≤ cell_count xs
count_of_some zero xs = omega arith
count_of_some (suc n) [] = omega arith
count_of_some (suc n) (x ∷ xs) = let h = count_of_some n xs in omega arith

-- empty cells are those that they were made of
pub same_empty : (ids : List CellId) → same_ids (map empty_cell ids) ids ≡ true
same_empty [] = refl
same_empty (i ∷ ids) = and_from _ _ (and_from _ _ (eq-eqb i.activity i.activity refl) (eq-eqb i.turn i.turn refl)) (same_empty ids)

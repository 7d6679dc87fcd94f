-- What holds of each part holds after one more.
use Rattle.std.proofs.Common.{◌≡◌, ℕ, ◌+◌, ◌<◌, ◌≤◌, true, leb, List, [], ◌∷◌, ◌++◌, length, get_or, sym, subst, ⊎_elim, arith}
use Rattle.std.proofs.lemmas.List.{get_or_append_left, get_or_push}
use Rattle.std.proofs.lemmas.Bool.{and_parts, cases_lt, leb-true, ltb-true}
use Rattle.records.specs.declared.activity.Activity.{Activity}
use Rattle.description.specs.Descriptions.{Description}
use Rattle.description.specs.Limits.{activity_right, cell_count}
use Rattle.reader.specs.Known.{KnownActivity}

pub each_push : {X : Type 0} (P : X → Type 0) (xs ys : List X) (x d : X) (n m : ℕ) → n ≡ length xs → m ≡ n + 1 → ys ≡ xs ++ x ∷ [] → ((i : ℕ) → i < n → P (get_or xs i d)) → P x → (i : ℕ) → i < m → P (get_or ys i d)
each_push P xs ys x d n m e l f old new i h =
    let Q : List _ → Type 0 = λ zs. P (get_or zs i d) in
    subst Q (sym f)
    (⊎_elim
    (λ (lt : i < n). subst P (sym (get_or_append_left xs (x ∷ []) d i (omega arith))) (old i lt))
    (λ (ge : n ≤ i). subst P (sym (get_or_push xs x d i (omega arith))) new)
    (cases_lt i n))

pub cell_count-push : (xs : List Activity) (x : Activity) → cell_count (xs ++ x ∷ []) ≡ cell_count xs + x.turns
cell_count-push [] x = omega arith
cell_count-push (y ∷ xs) x = let e = cell_count-push xs x in omega arith

pub right_is_known : (d : Description) (x : Activity) → activity_right d x ≡ true → KnownActivity (length d.applications) (length d.resources) x
right_is_known d x h =
    let a = and_parts _ _ h in
    let b = and_parts _ _ a.1 in
    let c = and_parts _ _ b.1 in
    let t = and_parts (leb 1 x.turns) (leb x.turns 64) c.0 in
    (ltb-true _ _ a.0, ltb-true _ _ b.0, leb-true _ _ t.0, leb-true _ _ t.1)

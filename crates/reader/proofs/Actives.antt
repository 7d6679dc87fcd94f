-- Activities among a list, and applications one after the other.
use Rattle.std.proofs.Common.{◌≡◌, ℕ, zero, suc, ◌+◌, Bool, true, false, ◌&&◌, ◌||◌, eqb, List, [], ◌∷◌, sym, refl, ap, ◌∙◌, arith}
use Rattle.std.specs.List.{list_any, list_all, range_with_len}
use Rattle.std.proofs.Math.Bool.{and-true, and_assoc}
use Rattle.records.specs.declared.activity.Activity.{Activity}
use Rattle.description.specs.Limits.{has_activity, all_active}

pub any_active : (i : ℕ) (xs : List Activity) → list_any (λ a. eqb a.application i) xs ≡ has_activity i xs
any_active i [] = refl
any_active i (a ∷ xs) = ap (λ b. eqb a.application i || b) (any_active i xs)

and_swaps : (a b c : Bool) → (a && (b && c)) ≡ (b && (a && c))
and_swaps true b c = refl
and_swaps false true c = refl
and_swaps false false c = refl

-- one after the other from the first on, as from the last on
each_from : (n k : ℕ) (xs : List Activity) → (list_all (λ i. has_activity i xs) (range_with_len k n) && all_active k xs) ≡ all_active (k + n) xs
each_from zero k xs = ap (λ m. all_active m xs) (let e : k ≡ k + 0 = omega arith in e)
each_from (suc n) k xs =
    let rest = list_all (λ i. has_activity i xs) (range_with_len (k + 1) n) in
    and_assoc (has_activity k xs) rest (all_active k xs)
    ∙ and_swaps (has_activity k xs) rest (all_active k xs)
    ∙ ap (λ m. rest && all_active m xs) (let e : suc k ≡ k + 1 = omega arith in e)
    ∙ each_from n (k + 1) xs
    ∙ ap (λ m. all_active m xs) (let e : k + 1 + n ≡ k + suc n = omega arith in e)

pub each_active : (n : ℕ) (xs : List Activity) → list_all (λ i. has_activity i xs) (range_with_len 0 n) ≡ all_active n xs
each_active n xs = sym (and-true (list_all (λ i. has_activity i xs) (range_with_len 0 n))) ∙ each_from n 0 xs ∙ ap (λ m. all_active m xs) (let e : 0 + n ≡ n = omega arith in e)

-- A list in the order of rank is the only one with its elements.
-- Kept: the library does not say that a list in order is the only one with its elements.
use Rattle.std.proofs.Common.{◌≡◌, ℕ, ◌+◌, Bool, true, false, cond, List, [], ◌∷◌, sum_by, sym, refl, ap, ◌∙◌, arith}
use Rattle.std.specs.List.Sorted.{IsPermutation}
use Rattle.std.specs.List.{AllByRecursion}
use Rattle.std.proofs.ByRecursion.{All-weaker}
use Rattle.std.proofs.lemmas.List.Sums.{sum_by-cons}
use Rattle.std.proofs.lemmas.List.Sorted.{sum_by-IsPermutation}
use Rattle.std.proofs.lemmas.Bool.{both_ways}
use Rattle.queue.specs.Order.{insert, ranked, InOrder, OrderIsDetermined}
use Rattle.queue.specs.Ranking.{Ranking}

-- the same elements, each as often: every weighing gives the same
abbrev pub Same : {X : Type 0} → List X → List X → Type 0
Same {X} xs ys = (f : X → ℕ) → sum_by f xs ≡ sum_by f ys

module _ {X : Type 0} (before : X → X → Bool) where
  abbrev early : X → X → ℕ
  early x z = cond (before z x) 1 0

  none_early : (x : X) (xs : List X) → AllByRecursion (λ y. before y x ≡ false) xs → sum_by (early x) xs ≡ 0
  none_early x [] h = refl
  none_early x (y ∷ ys) h = sum_by-cons (early x) y ys ∙ (λ i. cond (h.0 i) 1 0 + none_early x ys h.1 i)

  all_insert : (P : X → Type 0) (x : X) (xs : List X) → P x → AllByRecursion P xs → AllByRecursion P (insert before x xs)
  all_insert P x [] p h = (p, tt)
  all_insert P x (y ∷ ys) p h = by (before y x) (all_insert P x ys p h.1)
    where
      by : (b : Bool) → AllByRecursion P (insert before x ys) → AllByRecursion P (cond b (y ∷ insert before x ys) (x ∷ y ∷ ys))
      by true r = (h.0, r)
      by false r = (p, h)

  insert_same : (f : X → ℕ) (x : X) (xs : List X) → sum_by f (insert before x xs) ≡ f x + sum_by f xs
  insert_same f x [] = sum_by-cons f x []
  insert_same f x (y ∷ ys) = by (before y x) (insert_same f x ys)
    where
      by : (b : Bool) → sum_by f (insert before x ys) ≡ f x + sum_by f ys → sum_by f (cond b (y ∷ insert before x ys) (x ∷ y ∷ ys)) ≡ f x + sum_by f (y ∷ ys)
      by true r = let a = sum_by-cons f y (insert before x ys) in let c = sum_by-cons f y ys in omega arith
      by false r = sum_by-cons f x (y ∷ ys)

  pub ranked_same : (xs : List X) → Same xs (ranked before xs)
  ranked_same [] f = refl
  ranked_same (x ∷ xs) f = sum_by-cons f x xs ∙ ap (λ n. f x + n) (ranked_same xs f) ∙ sym (insert_same f x (ranked before xs))

  module _ (k : Ranking before) where
    irr : (x : X) → before x x ≡ false
    irr x = by (before x x) refl
      where
        by : (b : Bool) → before x x ≡ b → before x x ≡ false
        by true e = k.one_way x x e
        by false e = e

    later : (x y z : X) → before y x ≡ false → before z y ≡ false → before z x ≡ false
    later x y z p q = by (before z x) (before x y) refl refl
      where
        by : (b c : Bool) → before z x ≡ b → before x y ≡ c → before z x ≡ false
        by false c e f = e
        by true true e f = absurd (both_ways _ q (k.chain z x y e f))
        by true false e f = ap (before z) (k.no_tie x y f p) ∙ q

    head_first : (x y : X) (xs ys : List X) → Same (x ∷ xs) (y ∷ ys) → InOrder before (x ∷ xs) → before y x ≡ false
    head_first x y xs ys s h = by (before y x) refl
      where
        by : (b : Bool) → before y x ≡ b → before y x ≡ false
        by false e = e
        by true e =
            let none = none_early x (x ∷ xs) (irr x, h.0) in
            let some : sum_by (early x) (y ∷ ys) ≡ 1 + sum_by (early x) ys = sum_by-cons (early x) y ys ∙ ap (λ b. cond b 1 0 + sum_by (early x) ys) e in
            let same = s (early x) in
            absurd (omega arith)

    pub unique : (xs ys : List X) → Same xs ys → InOrder before xs → InOrder before ys → xs ≡ ys
    unique [] [] s a b = refl
    unique [] (y ∷ ys) s a b = let one = s (λ _. 1) in let c = sum_by-cons (λ _. 1) y ys in absurd (omega arith)
    unique (x ∷ xs) [] s a b = let one = s (λ _. 1) in let c = sum_by-cons (λ _. 1) x xs in absurd (omega arith)
    unique (x ∷ xs) (y ∷ ys) s a b =
        let e : x ≡ y = k.no_tie x y (head_first y x ys xs (λ f. sym (s f)) b) (head_first x y xs ys s a) in
        let rest : Same xs ys = λ f. let p = s f in let q = sum_by-cons f x xs in let r = sum_by-cons f y ys in let w = ap f e in omega arith in
        λ i. e i ∷ unique xs ys rest a.1 b.1 i

    insert_sorted : (x : X) (xs : List X) → InOrder before xs → InOrder before (insert before x xs)
    insert_sorted x [] s = (tt, tt)
    insert_sorted x (y ∷ ys) s = by (before y x) refl (insert_sorted x ys s.1)
      where
        by : (b : Bool) → before y x ≡ b → InOrder before (insert before x ys) → InOrder before (cond b (y ∷ insert before x ys) (x ∷ y ∷ ys))
        by true e r = (all_insert (λ z. before z y ≡ false) x ys (k.one_way y x e) s.0, r)
        by false e r = ((e, All-weaker (λ z. before z y ≡ false) (λ z. before z x ≡ false) (λ z q. later x y z e q) ys s.0), s)

    pub ranked_sorted : (xs : List X) → InOrder before (ranked before xs)
    ranked_sorted [] = tt
    ranked_sorted (x ∷ xs) = insert_sorted x (ranked before xs) (ranked_sorted xs)

    pub is_ranked : (xs ys : List X) → Same xs ys → InOrder before ys → ys ≡ ranked before xs
    is_ranked xs ys s h = unique ys (ranked before xs) (λ f. sym (s f) ∙ ranked_same xs f) h (ranked_sorted xs)

    shuffled_same : (xs ys : List X) → IsPermutation xs ys → Same xs ys
    shuffled_same xs ys h f = sym (sum_by-IsPermutation f xs ys h)

    pub order_is_determined : OrderIsDetermined before
    order_is_determined = record { in_order = ranked_sorted; only = λ xs ys h o. is_ranked xs ys (shuffled_same xs ys h) o }

    -- the same elements in another order are ranked the same
    pub ranked_shuffled : (xs ys : List X) → IsPermutation xs ys → ranked before ys ≡ ranked before xs
    ranked_shuffled xs ys h = is_ranked xs (ranked before ys) (λ f. shuffled_same xs ys h f ∙ ranked_same ys f) (ranked_sorted ys)

    all_ranked : (P : X → Type 0) (xs : List X) → AllByRecursion P xs → AllByRecursion P (ranked before xs)
    all_ranked P [] h = tt
    all_ranked P (x ∷ xs) h = all_insert P x (ranked before xs) h.0 (all_ranked P xs h.1)

    -- where none ranks before x, the order begins with it
    pub ranked_first : (xs ys : List X) (x : X) → IsPermutation xs (x ∷ ys) → AllByRecursion (λ y. before y x ≡ false) ys → ranked before xs ≡ x ∷ ranked before ys
    ranked_first xs ys x h first =
        sym (is_ranked xs (x ∷ ranked before ys)
        (λ f. shuffled_same xs (x ∷ ys) h f ∙ sum_by-cons f x ys ∙ ap (λ n. f x + n) (ranked_same ys f) ∙ sym (sum_by-cons f x (ranked before ys)))
        (all_ranked (λ y. before y x ≡ false) ys first, ranked_sorted ys))

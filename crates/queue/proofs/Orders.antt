-- A ranking as one of std's total orders, and what a heap of it says.
use Rattle.std.proofs.Common.{◌≡◌, ℕ, Bool, true, false, cond, List, get_or, Ordering, Less, Equal, Greater, sym, refl, ap, ◌∙◌}
use Rattle.std.proofs.lemmas.Bool.{both_ways}
use Rattle.std.specs.Cmp.{IsTotalOrder}
use Rattle.std.specs.Ordering.{is_lt, ordering_reverse}
use Rattle.std.specs.BinaryHeap.{lt_by_cmp}
use Rattle.std.specs.BinaryHeap.Sift.{ComparesAt}
use Rattle.queue.specs.Heaps.{order}
use Rattle.queue.specs.Ranking.{Ranking}

-- of the two tests of a pair, as `order` joins them
abbrev told : Bool → Bool → Ordering
told b a = cond b Less (cond a Greater Equal)

less_told : (b a : Bool) → is_lt (told b a) ≡ b
less_told true a = refl
less_told false true = refl
less_told false false = refl

told_less : (b a : Bool) → told b a ≡ Less → b ≡ true
told_less true a e = refl
told_less false true e = cc
told_less false false e = cc

told_equal : (b a : Bool) → told b a ≡ Equal → (b ≡ false) × (a ≡ false)
told_equal true a e = (cc, cc)
told_equal false true e = (refl, cc)
told_equal false false e = (refl, refl)

turned : (b a : Bool) → (b ≡ true → a ≡ false) → told b a ≡ ordering_reverse (told a b)
turned true true h = absurd (both_ways true (h refl) refl)
turned true false h = refl
turned false true h = refl
turned false false h = refl

module _ {X : Type 0} (before : X → X → Bool) where
  pub below_is : (x y : X) → lt_by_cmp (order before) x y ≡ before y x
  below_is x y = less_told (before y x) (before x y)

  pub tells : (xs : List X) (i j : ℕ) (r : Bool) → ((d : X) → r ≡ before (get_or xs j d) (get_or xs i d)) → ComparesAt (order before) xs i j r
  tells xs i j r h = λ d. below_is (get_or xs i d) (get_or xs j d) ∙ sym (h d)

  pub total : Ranking before → IsTotalOrder (order before)
  total k = record {
    antisymm = λ x y. turned (before y x) (before x y) (k.one_way y x);
    trans = λ x y z p q. ap (λ b. told b (before x z)) (k.chain z y x (told_less (before z y) (before y z) q) (told_less (before y x) (before x y) p));
    congr = λ x y z e. let t = told_equal (before y x) (before x y) e in ap (λ w. order before w z) (k.no_tie x y t.1 t.0);
  }

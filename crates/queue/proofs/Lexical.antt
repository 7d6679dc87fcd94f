-- A ranking by keys keeps the laws, since it is the library's order of lists.
use Rattle.std.proofs.Common.{◌≡◌, ℕ, Bool, true, false, List, Ordering, Some, Less, Equal, Greater, sym, refl, ap, ◌∙◌, arith}
use Rattle.std.proofs.lemmas.Bool.Decides.{nat_tests}
use Rattle.std.proofs.lemmas.Cmp.{nat_list_cmp_total, same_from_slice_cmp, same_from_slice_cmp_tested}
use Rattle.std.proofs.lemmas.Map.Lookups.{exact_bytes}
use Rattle.std.specs.Cmp.Lexicographic.{slice_cmp, slice_partial_cmp}
use Rattle.std.specs.Ordering.{nat_cmp, is_lt, is_some_and, ordering_reverse}
use Rattle.queue.specs.Keys.{less}
use Rattle.queue.specs.Ranking.{Ranking}

pub less_told : (xs ys : List ℕ) (r : Bool) → r ≡ is_some_and is_lt (slice_partial_cmp (λ x y. Some (nat_cmp x y)) xs ys) → r ≡ less xs ys
less_told = same_from_slice_cmp_tested nat_cmp is_lt less refl (λ _ _. refl) (λ _ _. refl) (λ x y xs ys o h. grind (arith, nat_tests))

pub less_is : (xs ys : List ℕ) → is_lt (slice_cmp nat_cmp xs ys) ≡ less xs ys
less_is xs ys = same_from_slice_cmp nat_cmp is_lt less refl (λ _ _. refl) (λ _ _. refl) (λ x y xs ys o h. grind (arith, nat_tests)) xs ys _ refl

is_less : (r : Ordering) → is_lt r ≡ true → r ≡ Less
is_less Less h = refl
is_less Equal h = cc
is_less Greater h = cc

neither : (r : Ordering) → is_lt r ≡ false → is_lt (ordering_reverse r) ≡ false → r ≡ Equal
neither Less h k = cc
neither Equal h k = refl
neither Greater h k = cc

pub ranking_by : {X : Type 0} (keys : X → List ℕ) → ((x y : X) → keys x ≡ keys y → x ≡ y) → Ranking (λ (x y : X). less (keys x) (keys y))
ranking_by keys apart =
    let o = nat_list_cmp_total in record {
      one_way = λ x y h. sym (less_is (keys y) (keys x)) ∙ ap is_lt (o.antisymm (keys y) (keys x) ∙ ap ordering_reverse (is_less _ (less_is (keys x) (keys y) ∙ h)));
      chain = λ x y z h k. sym (less_is (keys x) (keys z)) ∙ ap is_lt (o.trans (keys x) (keys y) (keys z) (is_less _ (less_is (keys x) (keys y) ∙ h)) (is_less _ (less_is (keys y) (keys z) ∙ k)));
      no_tie = λ x y h k. apart x y (exact_bytes (keys x) (keys y) (neither _ (less_is (keys x) (keys y) ∙ h) (sym (ap is_lt (o.antisymm (keys y) (keys x))) ∙ less_is (keys y) (keys x) ∙ k)));
    }

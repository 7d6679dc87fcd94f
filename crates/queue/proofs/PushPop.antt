-- A push and a pop, by what the two sifts do.
use Rattle.std.proofs.Common.{◌≡◌, ℕ, suc, ◌+◌, ◌-◌, ◌<◌, ◌≤◌, Bool, false, List, [], ◌∷◌, ◌++◌, length, get_or, take, drop, set, sym, ap, ◌∙◌, subst, append_assoc, arith, length-append, length-set, length-take, drop-cons, drop-set-lt, get_or-take, get_or-set_same}
use lib.Seq.{take-set-le, take-set-lt}
use Rattle.std.specs.List.{SwappedAt}
use Rattle.std.proofs.lemmas.List.Edits.{swap_is}
use Rattle.queue.specs.Order.{ranked}
use Rattle.std.proofs.Permutation.{as_core}
use Rattle.std.specs.Cmp.{IsTotalOrder}
use Rattle.std.specs.List.Sorted.{IsPermutation}
use Rattle.std.specs.Slice.Heapsort.{IsHeapWithin}
use Rattle.std.specs.BinaryHeap.{lt_by_cmp, IsHeap as WholeHeap}
use Rattle.std.specs.BinaryHeap.Sift.{SiftsUp, SiftsDown, RestoresHeap}
use Rattle.std.proofs.HeapSift as sifts
use Rattle.std.proofs.Permutation.{every_at}
use Rattle.std.proofs.ByRecursion.{All-from_get_or, all_shuffled}
use Rattle.std.specs.List.{AllByRecursion}
use Rattle.std.proofs.lemmas.List.Sorted.{IsPermutation-trans, IsPermutation-sym, IsPermutation-cons, IsPermutation-swap, IsPermutation-to_front, length_permutation}
use Rattle.std.proofs.lemmas.List.{take_more, get_or_read, take_at, drop_at, get_or_at, get_or_append_left}
use Rattle.queue.specs.Heaps.{Heaped, First, order, Pushed, Popped}
use Rattle.queue.specs.Ranking.{Ranking}
use Rattle.queue.proofs.Orders.{below_is, total}
use Rattle.queue.proofs.Sorting.{ranked_shuffled, ranked_first}

pub one_more : {X : Type 0} (q : List X) (n : ℕ) (x : X) → n < length q → take (n + 1) (set q n x) ≡ take n q ++ x ∷ []
one_more q n x lt = take_more (set q n x) n x (omega (arith, length-set q n x)) ∙ (λ i. take-set-le n q n x (omega arith) i ++ get_or-set_same q n x x lt i ∷ [])

module _ {X : Type 0} (before : X → X → Bool) (k : Ranking before) where
  abbrev o : IsTotalOrder (order before)
  o = total before k

  to_heap : (xs ys : List X) (low n m : ℕ) → m ≤ n → ((i : ℕ) (d : X) → low ≤ i → i < m → get_or ys i d ≡ get_or xs i d) → Heaped before xs n → IsHeapWithin (lt_by_cmp (order before)) ys low m
  to_heap xs ys low n m le e h = λ p c d lo a b f.
      (λ i. lt_by_cmp (order before) (e p d lo (omega arith) i) (e c d (omega arith) f i)) ∙ below_is before (get_or xs p d) (get_or xs c d) ∙ h p c d a b (omega arith)

  from_heap : (xs ys : List X) (n : ℕ) → ((i : ℕ) (d : X) → i < n → get_or ys i d ≡ get_or xs i d) → IsHeapWithin (lt_by_cmp (order before)) xs 0 n → Heaped before ys n
  from_heap xs ys n e h = λ p c d a b f.
      (λ i. before (e c d f i) (e p d (omega arith) i)) ∙ sym (below_is before (get_or xs p d) (get_or xs c d)) ∙ h p c d (omega arith) a b f

  pub pushed : (q w ys tail : List X) (n : ℕ) (x : X) → n < length q → w ≡ take n q ++ x ∷ [] → tail ≡ drop (n + 1) q → IsPermutation w ys → SiftsUp (order before) w n ys → Pushed before q n x (ys ++ tail)
  unfolding RestoresHeap WholeHeap
  pushed q w ys tail n x lt is rest s rises =
      let long : length ys ≡ n + 1 = length_permutation w ys s ∙ ap length is ∙ omega (arith, length-append (take n q) (x ∷ []), length-take n q) in
      let mends : RestoresHeap (order before) w 0 n ys = sifts.Take-ends (order before) o w ys n (n + 1) (omega arith) (sifts.take_steps (order before) o w w ys n n rises (sifts.take_begins (order before) o w n)) in
      let same : IsPermutation (x ∷ take n q) (take (n + 1) (ys ++ tail)) =
      subst (IsPermutation (x ∷ take n q)) (sym (take_at ys tail (n + 1) long))
      (IsPermutation-trans (x ∷ take n q) w ys (subst (IsPermutation (x ∷ take n q)) (sym is) (IsPermutation-sym _ _ (IsPermutation-to_front (take n q) x))) s) in
      record {
        same = same;
        contents_insert = ranked_shuffled before k (x ∷ take n q) (take (n + 1) (ys ++ tail)) same;
        beyond = drop_at ys tail (n + 1) long ∙ rest;
        heap = λ h. from_heap ys (ys ++ tail) (n + 1) (λ i d p. get_or_append_left ys tail d i (omega arith))
            (subst (IsHeapWithin (lt_by_cmp (order before)) ys 0) long (mends (to_heap q w 0 n n (omega arith)
            (λ i d _ p. ap (λ (l : List X). get_or l i d) is ∙ get_or_append_left (take n q) (x ∷ []) d i (omega (arith, length-take n q)) ∙ get_or-take n q i d p) h)));
      }

  -- what no record ranks before ranks before all that is left
  others_after : (q left : List X) (n : ℕ) (x : X) → n ≤ length q → IsPermutation (take n q) (x ∷ left) → First before x q n → AllByRecursion (λ y. before y x ≡ false) left
  others_after q left n x le same first =
      let all : AllByRecursion (λ y. before y x ≡ false) (take n q) =
      All-from_get_or (λ y. before y x ≡ false) (take n q) x
      (λ i p. let lt : i < n = omega (arith, length-take n q) in ap (λ y. before y x) (get_or-take n q i x lt) ∙ first i x lt) in
      (all_shuffled (λ y. before y x ≡ false) (take n q) (x ∷ left) same all).1

  -- s is the queue with its ends exchanged, and ys is the rest of it after the sift
  pub popped : (q s ys : List X) (n : ℕ) (x : X) → 0 < n → n ≤ length q → x ≡ get_or q 0 x → SwappedAt q s 0 (n - 1)
      → IsPermutation (take (n - 1) s) ys → SiftsDown (order before) (take (n - 1) s) 0 (length (take (n - 1) s)) ys
      → Popped before q n x (ys ++ drop (n - 1) s)
  unfolding SiftsDown WholeHeap
  popped q s ys n x pos le top moved t sinks =
      let part = take n q in
      let v = take (n - 1) s in
      let y = get_or q (n - 1) x in
      let rest = drop n q in
      let long : length part ≡ n = omega (arith, length-take n q) in
      let written : s ≡ set (set q 0 y) (n - 1) x = moved.3 x ∙ ap (set (set q 0 y) (n - 1)) (sym top) in
      let long_s : length s ≡ length q = ap length written ∙ length-set (set q 0 y) (n - 1) x ∙ length-set q 0 y in
      let long_v : length v ≡ n - 1 = omega (arith, length-take (n - 1) s) in
      let long_ys : length ys ≡ n - 1 = length_permutation v ys t ∙ long_v in
      let in_part : (c : ℕ) (d : X) → c < n → get_or part c d ≡ get_or q c d = λ c d p. get_or-take n q c d p in
      let part_top : (d : X) → x ≡ get_or part 0 d = λ d. get_or_read q 0 x (omega arith) top d ∙ sym (in_part 0 d pos) in
      let front : take n s ≡ v ++ x ∷ [] = ap (λ m. take m s) (omega arith) ∙ take_more s (n - 1) x (omega arith) ∙ ap (λ y. v ++ y ∷ []) (moved.1 x ∙ sym top) in
      let mixed : IsPermutation part (v ++ x ∷ []) =
      IsPermutation-swap part (v ++ x ∷ []) 0 (n - 1) (omega arith) (omega arith)
      (sym front
      ∙ ap (take n) written
      ∙ take-set-lt n (set q 0 y) (n - 1) x (omega arith)
      ∙ ap (λ l. set l (n - 1) x) (take-set-lt n q 0 y pos)
      ∙ (λ i. set (set part 0 (sym (in_part (n - 1) x (omega arith)) i)) (n - 1) (part_top x i))
      ∙ swap_is part 0 (n - 1) x (omega arith) (omega arith)
      ∙ sym (as_core part 0 (n - 1))) in
      let up : suc (n - 1) ≡ n = omega arith in
      let back : drop (n - 1) s ≡ x ∷ rest =
      drop-cons s (n - 1) x (omega arith)
      ∙ (λ i. (moved.1 x ∙ sym top) i ∷ drop (up i) s)
      ∙ ap (λ l. x ∷ drop n l) written
      ∙ ap (λ l. x ∷ l) (drop-set-lt n (set q 0 y) (n - 1) x (omega arith) ∙ drop-set-lt n q 0 y pos) in
      let same : IsPermutation part (x ∷ ys) = IsPermutation-trans part (v ++ x ∷ []) (x ∷ ys) mixed (IsPermutation-trans (v ++ x ∷ []) (x ∷ v) (x ∷ ys) (IsPermutation-to_front v x) (IsPermutation-cons x v ys t)) in
      let first : Heaped before q n → First before x q n =
      λ h c d p.
      let heaped : WholeHeap (order before) part = subst (IsHeapWithin (lt_by_cmp (order before)) part 0) (sym long) (to_heap q part 0 n n (omega arith) (λ c d lo p. in_part c d p) h) in
      let best = every_at (λ y. lt_by_cmp (order before) x y ≡ false) part c d (omega arith) (sifts.greatest o part x (part_top x) heaped) in
      ap (λ y. before y x) (sym (in_part c d p)) ∙ sym (below_is before x (get_or part c d)) ∙ best in
      subst (λ l. Popped before q n x (ys ++ l)) (sym back)
      (record {
        same = subst (λ l. IsPermutation part (x ∷ l)) (sym (take_at ys (x ∷ rest) (n - 1) long_ys)) same;
        first = first;
        contents_tail = λ h. subst (λ l. ranked before part ≡ x ∷ ranked before l) (sym (take_at ys (x ∷ rest) (n - 1) long_ys))
            (ranked_first before k part ys x same (others_after q ys n x le same (first h)));
        beyond = ap (drop n) (sym (append_assoc ys (x ∷ []) rest)) ∙ drop_at (ys ++ x ∷ []) rest n (omega (arith, length-append ys (x ∷ [])));
        freed = λ d. get_or_at ys x rest d (n - 1) long_ys;
        heap = λ h. from_heap ys (ys ++ x ∷ rest) (n - 1) (λ i d p. get_or_append_left ys (x ∷ rest) d i (omega arith))
            (subst (λ m. IsHeapWithin (lt_by_cmp (order before)) ys 0 m) long_v (sinks.1 (to_heap q v 1 n (length v) (omega arith)
            (λ c d lo p. get_or-take (n - 1) s c d (omega arith) ∙ moved.2 c d (omega arith) (omega arith)) h)));
      })

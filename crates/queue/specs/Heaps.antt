-- A queue of n records in the first n places of a list.
use Rattle.std.specs.Prelude.{◌≡◌, ℕ, ◌+◌, ◌-◌, ◌*◌, ◌<◌, ◌≤◌, Bool, false, cond, List, ◌∷◌, take, drop, slice_index_or}
use Rattle.std.specs.declared.cmp.Ordering.TheVariants.{Less, Equal, Greater}
use Rattle.std.specs.declared.cmp.Ordering.{Ordering}
use Rattle.std.specs.List.Sorted.{IsPermutation}
use Rattle.queue.specs.Order.{insert, ranked}

module _ {X : Type 0} (before : X → X → Bool) where
  -- its records, in the order of their rank
  abbrev pub contents : List X → ℕ → List X
  contents xs n = ranked before (take n xs)

  -- its heap order: none ranks before the one above it, which for place k is at (k - 1) / 2
  abbrev pub Heaped : List X → ℕ → Type 0
  Heaped xs n = (p k : ℕ) (d : X) → p * 2 + 1 ≤ k → k ≤ p * 2 + 2 → k < n → before (slice_index_or xs k d) (slice_index_or xs p d) ≡ false

  -- none of its records ranks before x
  abbrev pub First : X → List X → ℕ → Type 0
  First x xs n = (k : ℕ) (d : X) → k < n → before (slice_index_or xs k d) x ≡ false

  -- ys is xs with x added to the queue of n records
  pub record Pushed (xs : List X) (n : ℕ) (x : X) (ys : List X) : Type 0 where
    -- the same records and x, in some order
    pub same : IsPermutation (x ∷ take n xs) (take (n + 1) ys)
    pub contents_insert : contents ys (n + 1) ≡ insert before x (contents xs n)
    pub heap : Heaped xs n → Heaped ys (n + 1)
    -- the places beyond
    pub beyond : drop (n + 1) ys ≡ drop (n + 1) xs

  -- ys is xs with x, which ranks first, taken out of the queue of n records
  pub record Popped (xs : List X) (n : ℕ) (x : X) (ys : List X) : Type 0 where
    pub same : IsPermutation (take n xs) (x ∷ take (n - 1) ys)
    pub first : Heaped xs n → First x xs n
    pub contents_tail : Heaped xs n → contents xs n ≡ x ∷ contents ys (n - 1)
    pub heap : Heaped xs n → Heaped ys (n - 1)
    -- the place that became free, and those beyond
    pub freed : (d : X) → slice_index_or ys (n - 1) d ≡ x
    pub beyond : drop n ys ≡ drop n xs

  -- the ranking as one of std's orders, in which what ranks first is the greatest
  abbrev pub order : X → X → Ordering
  order x y = cond (before y x) Less (cond (before x y) Greater Equal)

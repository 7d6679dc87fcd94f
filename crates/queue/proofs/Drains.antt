-- One record after the other leaves a queue.
use Rattle.std.proofs.Common.{◌≡◌, ℕ, suc, ◌+◌, ◌-◌, ◌<◌, ◌≤◌, Bool, List, [], ◌∷◌, ◌++◌, reverse, length, take, drop, set, sym, ap, ◌∙◌, subst, append_assoc, append-nil, arith, take_all, drop-cons}
use Rattle.std.proofs.lemmas.List.{take_at, drop_at, length-reverse, reverse-append}
use Rattle.queue.specs.Drained.{Drained}
use Rattle.queue.specs.Heaps.{Heaped, Popped, contents}
use Rattle.queue.proofs.PushPop.{one_more}

-- after c of n records, which stand in the places for the n
pub record Draining {X : Type 0} (before : X → X → Bool) (q : List X) (n : ℕ) (q' taken : List X) (c : ℕ) : Type 0 where
  pub heap : Heaped before q n → Heaped before q' (n - c)
  pub split : Heaped before q n → contents before q n ≡ take c taken ++ contents before q' (n - c)
  -- what was taken out stands backwards in the places that became free
  pub left : drop (n - c) q' ≡ reverse (take c taken) ++ drop n q

module _ {X : Type 0} (before : X → X → Bool) where
  pub begins : (q : List X) (n : ℕ) (taken : List X) → Draining before q n q taken 0
  begins q n taken = record {
    heap = λ h p c d a b e. h p c d a b (omega arith);
    split = λ h. let e : n ≡ n - 0 = omega arith in ap (contents before q) e;
    left = let e : n - 0 ≡ n = omega arith in ap (λ m. drop m q) e;
  }

  pub steps : (q q' taken r : List X) (n c : ℕ) (x : X) → c < n → length taken ≡ n → n ≤ length r → Draining before q n q' taken c → Popped before q' (n - c) x r
      → Draining before q n r (set taken c x) (c + 1)
  steps q q' taken r n c x lt room long was pop =
      let less : n - c - 1 ≡ n - (c + 1) = omega arith in
      let back : suc (n - c - 1) ≡ n - c = omega arith in
      let front : take (c + 1) (set taken c x) ≡ take c taken ++ x ∷ [] = one_more taken c x (omega arith) in
      record {
        heap = λ h. subst (Heaped before r) less (pop.heap (was.heap h));
        split = λ h.
            was.split h
            ∙ ap (λ l. take c taken ++ l) (pop.contents_tail (was.heap h))
            ∙ sym (append_assoc (take c taken) (x ∷ []) (contents before r (n - c - 1)))
            ∙ ap (λ l. l ++ contents before r (n - c - 1)) (sym front)
            ∙ ap (λ m. take (c + 1) (set taken c x) ++ contents before r m) less;
        left =
            ap (λ m. drop m r) (sym less)
            ∙ drop-cons r (n - c - 1) x (omega arith)
            ∙ (λ i. pop.freed x i ∷ drop (back i) r)
            ∙ ap (λ l. x ∷ l) (pop.beyond ∙ was.left)
            ∙ ap (λ l. l ++ drop n q) (sym (ap reverse front ∙ reverse-append (take c taken) (x ∷ [])));
      }

  pub ends : (q out q' taken : List X) (n c : ℕ) → n ≤ length q → n ≤ length out → length taken ≡ n → c ≡ n → Draining before q n q' taken c
      → Drained before q n out q' (taken ++ drop n out)
  ends q out q' taken n c within room long e was =
      let none_left : n - c ≡ 0 = omega arith in
      let all : take c taken ≡ taken = take_all c taken (omega arith) in
      let front : take n (taken ++ drop n out) ≡ taken = take_at taken (drop n out) n long in
      let whole : q' ≡ reverse taken ++ drop n q = ap (λ m. drop m q') (sym none_left) ∙ was.left ∙ ap (λ l. reverse l ++ drop n q) all in
      let size : length (reverse taken) ≡ n = length-reverse taken ∙ long in
      record {
        within = within;
        room = room;
        in_order = λ h. front ∙ sym (was.split h ∙ ap (λ m. take c taken ++ contents before q' m) none_left ∙ append-nil (take c taken) ∙ all);
        left = ap (take n) whole ∙ take_at (reverse taken) (drop n q) n size ∙ ap reverse (sym front);
        beyond = ap (drop n) whole ∙ drop_at (reverse taken) (drop n q) n size;
        out_beyond = drop_at taken (drop n out) n long;
      }

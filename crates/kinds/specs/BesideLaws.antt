-- The laws of two kinds side by side follow from those of the two.
use Rattle.std.specs.Prelude.{◌≡◌, ℕ, ◌+◌, Bool, true, false, cond, List, Option}
use Rattle.std.proofs.Common.{sym, subst, arith}
use Rattle.std.proofs.lemmas.Bool.{cases_Bool}
use Rattle.kinds.specs.Beside.{beside}
use Rattle.kinds.specs.Laws.{Laws}
use Rattle.kinds.specs.Relations.{Relations}
use Rattle.kinds.specs.Smallest.{Smallest}

-- what holds of both kinds' answers holds of the answer of the one that is asked
chosen : {X : Type 0} (v : Bool) (x y : X) (P : X → Type 0) → P x → P y → P (cond v x y)
chosen true x y P p q = p
chosen false x y P p q = q

-- the same of the answers to two questions
chosen_2 : {X Y : Type 0} (v : Bool) (x y : X) (z w : Y) (P : X → Y → Type 0) → P x z → P y w → P (cond v x y) (cond v z w)
chosen_2 true x y z w P p q = p
chosen_2 false x y z w P p q = q

module _ (a b : Relations) (la : Laws a) (lb : Laws b) where
  pub beside_laws : Laws (beside a b)
  beside_laws = record {
    span_limits = λ k ns d e h. grind (arith, cases_Bool (a.known k), la.span_limits k ns d e, lb.span_limits k ns d e);
    repeats = λ k. chosen (a.known k) (a.admits k) (b.admits k) (λ f. (ns : List ℕ) (d p s : ℕ) → f ns d p (s + p) ≡ f ns d p s) (la.repeats k) (lb.repeats k);
    symmetric = λ k ns s x t y. grind (arith, cases_Bool (a.known k), la.symmetric k ns s x t y, lb.symmetric k ns s x t y);
    moves = λ k.
        chosen_2 (a.known k) (a.admits k) (b.admits k) (a.bars k) (b.bars k)
        (λ f g. (ns : List ℕ) (d p s x e q t y : ℕ) → f ns d p s ≡ true → f ns e q t ≡ true → g ns (s + p) x t y ≡ g ns s x t y) (la.moves k) (lb.moves k);
    sound_is_known = λ k ns h. grind (arith, cases_Bool (a.known k), lb.sound_is_known k ns);
    unsound_takes_nothing = λ k ns d h. grind (arith, cases_Bool (a.known k), la.unsound_takes_nothing k ns d, lb.unsound_takes_nothing k ns d);
    unsound_bars_nothing = λ k ns s x t y h. grind (arith, cases_Bool (a.known k), la.unsound_bars_nothing k ns s x t y, lb.unsound_bars_nothing k ns s x t y);
    demand_limits = λ k ns d h. grind (arith, cases_Bool (a.known k), la.demand_limits k ns d h, lb.demand_limits k ns d h);
    repeat_limits = λ k ns d p s h. grind (arith, cases_Bool (a.known k), la.repeat_limits k ns d p s h, lb.repeat_limits k ns d p s h);
    untaken_is_not_admitted = λ k ns d p s h. grind (arith, cases_Bool (a.known k), la.untaken_is_not_admitted k ns d p s, lb.untaken_is_not_admitted k ns d p s);
  }

-- the smallest admitted start is that of the kind which is asked
pub smallest_chosen : (a b : Relations) (k : ℕ) (ns : List ℕ) (d p from : ℕ) (r : Option ℕ) (v : Bool) → a.known k ≡ v
    → Smallest (cond v (a.admits k) (b.admits k) ns d p) from r → Smallest ((beside a b).admits k ns d p) from r
smallest_chosen a b k ns d p from r v e h = subst (λ (v : Bool). Smallest (cond v (a.admits k) (b.admits k) ns d p) from r) (sym e) h

-- The laws of a kind follow from those of its parts.
use Rattle.std.proofs.Common.{◌≡◌, ℕ, ◌≤◌, Bool, true, false, cond, ◌&&◌, leb, List, Some, None, refl, ap, arith}
use Rattle.std.proofs.lemmas.Bool.Decides.{nat_tests}
use Rattle.std.proofs.lemmas.Option.{cond_some, none-some}
use Rattle.kinds.specs.Laws.{Laws, Outside}
use Rattle.kinds.specs.Parts.{Parts, Lawful, kind, sound, takes, repeated}

pub under : (t x y : Bool) → (t ≡ true → x ≡ y) → (t && x) ≡ (t && y)
under true x y h = h refl
under false x y h = refl

-- within 1 to the most, as a test
outside : (most n : ℕ) → Outside most n → (leb 1 n && leb n most) ≡ false
outside most n o = grind (arith, nat_tests)

none_is : (b : Bool) (v : ℕ) → cond b (Some v) None ≡ None → b ≡ false
none_is b v h = grind (arith, none-some)

module _ (x : Parts) (l : Lawful x) where
  span_limits : (k : ℕ) (ns : List ℕ) (d e : ℕ) → (kind x).span k ns d ≡ Some e → (1 ≤ e) × (e ≤ 1000000)
  span_limits k ns d e h =
      let is = cond_some (takes x k ns d) (x.time ns d) e h in
      let limits = l.time_limits ns d (grind arith) (grind arith) (grind arith) in
      (omega (arith, limits.0, is.1), omega (arith, limits.1, is.1))

  on_grid : (k : ℕ) (ns : List ℕ) (d p s : ℕ) → (kind x).admits k ns d p s ≡ true → x.grid ns p s ≡ true
  on_grid k ns d p s h = grind arith

  pub kind_laws : Laws (kind x)
  kind_laws = record {
    span_limits = span_limits;
    repeats = λ k ns d p s. ap (λ g. takes x k ns d && (repeated p && g)) (l.grid_repeats ns p s);
    symmetric = λ k ns s a t b. ap (λ c. sound x k ns && c) (l.clash_symmetric ns s a t b);
    moves = λ k ns d p s a e q t b h i. ap (λ c. sound x k ns && c) (l.clash_moves ns p s a t b (on_grid k ns d p s h));
    sound_is_known = λ k ns h. grind arith;
    unsound_takes_nothing = λ k ns d h. grind arith;
    unsound_bars_nothing = λ k ns s a t b h. grind arith;
    demand_limits = λ k ns d h. grind (arith, outside 1000000 d h);
    repeat_limits = λ k ns d p s h. grind (arith, outside 64000000 p h);
    untaken_is_not_admitted = λ k ns d p s h. grind (arith, none_is (takes x k ns d) (x.time ns d) h);
  }

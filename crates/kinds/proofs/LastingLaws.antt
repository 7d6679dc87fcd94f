-- What the laws give after any number of repeats.
use Rattle.std.proofs.Common.{◌≡◌, ℕ, zero, suc, ◌+◌, ◌*◌, true, List, ap, ◌∙◌, arith}
use Rattle.kinds.specs.Laws.{Laws, Lasting}
use Rattle.kinds.specs.Relations.{Relations}

one_more : (s m p : ℕ) → s + suc m * p ≡ (s + m * p) + p
one_more s m p = omega arith

none_yet : (s p : ℕ) → s + 0 * p ≡ s
none_yet s p = omega arith

module _ (r : Relations) (l : Laws r) where
  admitted : (k : ℕ) (ns : List ℕ) (d p s m : ℕ) → r.admits k ns d p (s + m * p) ≡ r.admits k ns d p s
  admitted k ns d p s zero = ap (r.admits k ns d p) (none_yet s p)
  admitted k ns d p s (suc m) = ap (r.admits k ns d p) (one_more s m p) ∙ l.repeats k ns d p (s + m * p) ∙ admitted k ns d p s m

  barred : (k : ℕ) (ns : List ℕ) (d p s a e q t b m : ℕ) → r.admits k ns d p s ≡ true → r.admits k ns e q t ≡ true
      → r.bars k ns (s + m * p) a t b ≡ r.bars k ns s a t b
  barred k ns d p s a e q t b zero h i = ap (λ n. r.bars k ns n a t b) (none_yet s p)
  barred k ns d p s a e q t b (suc m) h i =
      ap (λ n. r.bars k ns n a t b) (one_more s m p)
      ∙ l.moves k ns d p (s + m * p) a e q t b (admitted k ns d p s m ∙ h) i
      ∙ barred k ns d p s a e q t b m h i

  pub lasting : Lasting r
  lasting = record {
    admitted_for_ever = admitted;
    barred_for_ever = λ k ns d p s a e q t b m n h i.
        barred k ns d p s a e q (t + n * q) b m h (admitted k ns e q t n ∙ i)
        ∙ l.symmetric k ns s a (t + n * q) b
        ∙ barred k ns e q t b d p s a n i h
        ∙ l.symmetric k ns t b s a;
  }

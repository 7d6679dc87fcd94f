-- The laws of a link.
use Rattle.std.specs.Prelude.{◌≡◌, ℕ, ◌^◌, ◌<◌, ◌≤◌, ◌⊎◌, slice_index, refl}
use Rattle.std.proofs.Common.{sym, subst, ⊎_elim, arith}
use Rattle.std.proofs.lemmas.Bool.Decides.{nat_tests}
use Rattle.kinds.specs.Laws.{Laws}
use Rattle.kinds.specs.Parts.{Lawful}
use Rattle.resources.specs.Link.{link, link_parts, link_time}
use Rattle.kinds.specs.PartLaws.{kind_laws}

four : (code : ℕ) → 1 ≤ code → code ≤ 4 → (code ≡ 1) ⊎ ((code ≡ 2) ⊎ ((code ≡ 3) ⊎ (code ≡ 4)))
four code low high = grind arith

-- what holds of each of the four rates holds of every code's
by_code : (P : ℕ → Type 0) → P 10 → P 100 → P 1000 → P 10000 → (code : ℕ) → 1 ≤ code → code ≤ 4 → P (10 ^ code)
by_code P a b c d code low high =
    let Q : ℕ → Type 0 = λ n. P (10 ^ n) in
    ⊎_elim (λ (e : code ≡ 1). subst Q (sym e) a)
    (⊎_elim (λ (e : code ≡ 2). subst Q (sym e) b) (⊎_elim (λ (e : code ≡ 3). subst Q (sym e) c) (λ (e : code ≡ 4). subst Q (sym e) d)))
    (four code low high)

pub rate_positive : (code : ℕ) → 1 ≤ code → code ≤ 4 → 0 < 10 ^ code
rate_positive code low high = by_code (λ r. 0 < r) (omega arith) (omega arith) (omega arith) (omega arith) code low high

time_limits : (code overhead d : ℕ) → 1 ≤ code → code ≤ 4 → overhead ≤ 10000 → 1 ≤ d → d ≤ 1000000
    → (1 ≤ link_time code overhead d) × (link_time code overhead d ≤ 1000000)
time_limits code overhead d low high o l h =
    (grind (arith, four code low high), grind (arith, four code low high))

pub link_lawful : Lawful link_parts
link_lawful = record {
  time_limits = λ ns d right within carried.
      time_limits (slice_index ns 0) (slice_index ns 1) d (grind (arith, nat_tests)) (grind (arith, nat_tests)) (grind (arith, nat_tests)) (grind (arith, nat_tests)) (grind (arith, nat_tests));
  grid_repeats = λ ns p s. refl;
  clash_symmetric = λ ns s a t b. refl;
  clash_moves = λ ns p s a t b h. refl;
}

pub link_laws : Laws link
link_laws = kind_laws link_parts link_lawful

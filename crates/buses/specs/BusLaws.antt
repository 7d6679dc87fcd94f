-- The laws and the step of a bus.
use Rattle.std.specs.Prelude.{◌≡◌, ℕ, zero, suc, ◌+◌, ◌*◌, ◌/◌, ◌%◌, ◌≤◌, Bool, true, false, ◌&&◌, List, Some, ◌==◌, slice_index, refl}
use Rattle.std.proofs.Common.{sym, ap, ◌∙◌, le-mul_of_pos_right, mul_comm, arith}
use Rattle.std.proofs.Math.Nat.{mod-add-div, add-mul-mod_self_left}
use Rattle.std.proofs.lemmas.Bool.{and_from, and_right, eqb-true}
use Rattle.std.proofs.lemmas.Bool.Decides.{nat_tests}
use Rattle.buses.specs.Bus.{bus, bus_parts, bus_right, at_slot}
use Rattle.kinds.specs.Laws.{Laws}
use Rattle.kinds.specs.Parts.{Lawful, takes, repeated}
use Rattle.buses.specs.Slots.{FirstSlot, serves}
use Rattle.kinds.specs.Smallest.{Smallest}
use Rattle.kinds.specs.PartLaws.{kind_laws, under}

-- what a right bus has
pub record Right (c m l : ℕ) : Type 0 where
  pub cycle_low : 1 ≤ c
  pub cycle_high : c ≤ 100000
  pub slots_low : 1 ≤ m
  pub length_low : 1 ≤ l
  pub holds : m * l ≤ c

pub is_right : (c m l y : ℕ) → bus_right c m l y ≡ true → Right c m l
is_right c m l y h = grind (arith, nat_tests)

slot_limits : (c m l : ℕ) → Right c m l → (1 ≤ l) × (l ≤ 1000000)
slot_limits c m l r = (r.length_low, omega (arith, r.holds, r.cycle_high, le-mul_of_pos_right l r.slots_low, mul_comm l m))

-- a start later by a multiple of the cycle has the same place in its cycle
later_place : (c p s : ℕ) → p % c ≡ 0 → (s + p) % c ≡ s % c
later_place c p s e =
    let whole : c * (p / c) ≡ p = omega (arith, mod-add-div p c) in
    ap (λ n. (s + n) % c) (sym whole) ∙ add-mul-mod_self_left s c (p / c)

later_slot : (c m l p s : ℕ) → p % c ≡ 0 → at_slot c m l (s + p) ≡ at_slot c m l s
later_slot c zero l p s e = refl
later_slot c (suc m) l p s e = grind (arith, later_slot c m l p s e, later_place c p s e)

pub bus_lawful : Lawful bus_parts
bus_lawful = record {
  time_limits = λ ns d right within carried. slot_limits (slice_index ns 0) (slice_index ns 1) (slice_index ns 2) (is_right (slice_index ns 0) (slice_index ns 1) (slice_index ns 2) (slice_index ns 3) right);
  grid_repeats = λ ns p s.
      under (p % slice_index ns 0 == 0) (at_slot (slice_index ns 0) (slice_index ns 1) (slice_index ns 2) (s + p)) (at_slot (slice_index ns 0) (slice_index ns 1) (slice_index ns 2) s)
      (λ h. later_slot (slice_index ns 0) (slice_index ns 1) (slice_index ns 2) p s (eqb-true (p % slice_index ns 0) 0 h));
  clash_symmetric = λ ns s a t b. grind (arith, nat_tests);
  clash_moves = λ ns p s a t b h. grind (arith, nat_tests, later_place (slice_index ns 0) p s);
}

pub bus_laws : Laws bus
bus_laws = kind_laws bus_parts bus_lawful

regrouped : (a b c e : Bool) → ((a && (b && c)) && e) ≡ (a && (b && (c && e)))
regrouped true true c e = refl
regrouped true false c e = refl
regrouped false b c e = refl

module _ (k : ℕ) (ns : List ℕ) (d p : ℕ) where
  abbrev slot : ℕ → Bool
  slot s = at_slot (slice_index ns 0) (slice_index ns 1) (slice_index ns 2) s

  -- a start is admitted exactly when the demand with its repeat is served and the start begins a slot
  pub admits_is : (s : ℕ) → (serves k ns d p && slot s) ≡ bus.admits k ns d p s
  admits_is s = regrouped (takes bus_parts k ns d) (repeated p) (p % slice_index ns 0 == 0) (slot s)

  pub step_some : (from r : ℕ) → from ≤ 4000000000 → serves k ns d p ≡ true
      → FirstSlot (slice_index ns 0) (slice_index ns 1) (slice_index ns 2) from r → Smallest (bus.admits k ns d p) from (Some r)
  step_some from r low h first = (
    low,
    first.onward,
    sym (admits_is r) ∙ and_from (serves k ns d p) (slot r) h first.begins,
    λ s l b. sym (admits_is s) ∙ and_right (serves k ns d p) (slot s) (first.none_before s l b),
  )

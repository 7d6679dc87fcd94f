-- Kind 3, a bus: n0 is its cycle (100 to 100,000), n1 its number of slots (1 to 1,023), n2 the length of a slot (at least 1),
-- n3 its payload (1 to 254 bytes); the slots fit into the cycle.
use Rattle.std.specs.Prelude.{ℕ, zero, suc, ◌*◌, ◌/◌, ◌%◌, Bool, false, not, ◌&&◌, ◌||◌, ◌==◌, nat_le, slice_index}
use Rattle.kinds.specs.Parts.{Parts, kind}
use Rattle.kinds.specs.Relations.{Relations}

-- cycle c, slots m, slot length l, payload y
abbrev pub bus_right : ℕ → ℕ → ℕ → ℕ → Bool
bus_right c m l y = (nat_le 100 c && nat_le c 100000) && ((nat_le 1 m && nat_le m 1023) && (nat_le 1 l && ((nat_le 1 y && nat_le y 254) && nat_le (m * l) c)))

-- the start's place in its cycle is the beginning of one of the slots 0 to m - 1
abbrev pub at_slot : ℕ → ℕ → ℕ → ℕ → Bool
at_slot c zero l s = false
at_slot c (suc m) l s = at_slot c m l s || s % c == m * l

-- both starts lie in the same slot of their cycles
abbrev pub same_slot : ℕ → ℕ → ℕ → ℕ → Bool
same_slot c l s t = (s % c) / l == (t % c) / l

-- A demand up to the payload occupies one slot; a larger one is not taken. The repeat is a multiple of the cycle, and a start
-- is at the beginning of a slot. Two senders exclude each other in one slot.
abbrev pub bus_parts : Parts
bus_parts = record {
  number = 3;
  right = λ ns. bus_right (slice_index ns 0) (slice_index ns 1) (slice_index ns 2) (slice_index ns 3);
  carries = λ ns d. nat_le d (slice_index ns 3);
  time = λ ns d. slice_index ns 2;
  grid = λ ns p s. (p % slice_index ns 0 == 0) && at_slot (slice_index ns 0) (slice_index ns 1) (slice_index ns 2) s;
  clash = λ ns s a t b. not (a == b) && same_slot (slice_index ns 0) (slice_index ns 2) s t;
}

abbrev pub bus : Relations
bus = kind bus_parts

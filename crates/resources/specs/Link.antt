-- Kind 2, a link: n0 is a rate code 1 to 4 for 10 ^ n0 bits per microsecond, n1 an overhead 0 to 10,000, n2 and n3 are 0.
-- A demand in bytes occupies 8 times the demand by the rate, rounded up, plus the overhead. It may begin at every start,
-- and nothing is barred.
use Rattle.std.specs.Prelude.{ℕ, ◌+◌, ◌*◌, ◌^◌, Bool, true, false, ◌&&◌, List, ◌==◌, nat_le, slice_index}
use Rattle.arithmetic.specs.Division.{divided_up}
use Rattle.kinds.specs.Parts.{Parts, kind}
use Rattle.kinds.specs.Relations.{Relations}

abbrev pub link_right : List ℕ → Bool
link_right ns = (nat_le 1 (slice_index ns 0) && nat_le (slice_index ns 0) 4) && (nat_le (slice_index ns 1) 10000 && (slice_index ns 2 == 0 && slice_index ns 3 == 0))

abbrev pub link_time : ℕ → ℕ → ℕ → ℕ
link_time code overhead d = divided_up (8 * d) (10 ^ code) + overhead

abbrev pub link_parts : Parts
link_parts = record {
  number = 2;
  right = link_right;
  carries = λ ns d. true;
  time = λ ns d. link_time (slice_index ns 0) (slice_index ns 1) d;
  grid = λ ns p s. true;
  clash = λ ns s a t b. false;
}

abbrev pub link : Relations
link = kind link_parts

-- Kind 1, a core: its four numbers are 0. A demand occupies as much time as it says; it may begin at every start, and
-- nothing is barred.
use Rattle.std.specs.Prelude.{ℕ, Bool, true, false, ◌&&◌, List, ◌==◌, slice_index}
use Rattle.kinds.specs.Parts.{Parts, kind}
use Rattle.kinds.specs.Relations.{Relations}

abbrev pub all_zero : List ℕ → Bool
all_zero ns = slice_index ns 0 == 0 && (slice_index ns 1 == 0 && (slice_index ns 2 == 0 && slice_index ns 3 == 0))

abbrev pub core_parts : Parts
core_parts = record {
  number = 1;
  right = all_zero;
  carries = λ ns d. true;
  time = λ ns d. d;
  grid = λ ns p s. true;
  clash = λ ns s a t b. false;
}

abbrev pub core : Relations
core = kind core_parts

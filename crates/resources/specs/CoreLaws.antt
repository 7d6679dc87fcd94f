-- The laws of a core.
use Rattle.std.specs.Prelude.{nat_le, refl}
use Rattle.std.proofs.lemmas.Bool.{and_parts, leb-true}
use Rattle.resources.specs.Core.{core, core_parts}
use Rattle.kinds.specs.Laws.{Laws}
use Rattle.kinds.specs.Parts.{Lawful}
use Rattle.kinds.specs.PartLaws.{kind_laws}

pub core_lawful : Lawful core_parts
core_lawful = record {
  time_limits = λ ns d right within carried.
      let parts = and_parts (nat_le 1 d) (nat_le d 1000000) within in
      (leb-true 1 d parts.0, leb-true d 1000000 parts.1);
  grid_repeats = λ ns p s. refl;
  clash_symmetric = λ ns s a t b. refl;
  clash_moves = λ ns p s a t b h. refl;
}

pub core_laws : Laws core
core_laws = kind_laws core_parts core_lawful

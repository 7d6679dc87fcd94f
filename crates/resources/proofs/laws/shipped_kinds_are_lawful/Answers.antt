use Rattle.std.proofs.Common.{refl}
use Rattle.buses.specs.BusLaws.{bus_laws}
use Rattle.resources.specs.CoreLaws.{core_laws}
use Rattle.resources.specs.LinkLaws.{link_laws}
use Rattle.resources.proofs.laws.shipped_kinds_are_lawful.Goals as goal

pub returns : goal.returns
returns c = record { core = (refl, core_laws); link = (refl, link_laws); bus = (refl, bus_laws) }

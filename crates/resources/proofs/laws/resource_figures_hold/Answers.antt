use Rattle.std.proofs.Common.{false, ◌&&◌, leb, refl}
use Rattle.std.proofs.lemmas.Bool.{and_right}
use Rattle.kinds.specs.Parts.{demanded}
use Rattle.resources.proofs.laws.resource_figures_hold.Goals as goal

pub returns : goal.returns
returns c = record {
  demand_1250_has_span_105 = refl;
  demand_1251_has_span_106 = refl;
  demand_33_is_not_taken = refl;
  repeat_5000_admits_3800 = refl;
  repeat_5000_does_not_admit_4000 = refl;
  repeat_7500_admits_none = λ d s. and_right (demanded d && leb d 32) false refl;
}

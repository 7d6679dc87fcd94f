-- The fields of a plan file: which may follow which, and what each says.
use Rattle.std.specs.Prelude.{ℕ, cond, List, Some, None, Err, Option, Result, ◌==◌}
use Rattle.std.specs.Result.{result_map_both}
use Rattle.fields.specs.declared.record.FieldFault.{FieldFault}
use Rattle.fields.specs.declared.record.FieldFault.TheVariants.{Short, Tag, Length}
use Rattle.fields.specs.Fields.{reading}
use Rattle.records.specs.Resources.{resource_in}
use Rattle.records.specs.Applications.{application_in}
use Rattle.records.specs.Points.{point_in}
use Rattle.records.specs.Activities.{activity_in}
use Rattle.records.specs.Edges.{edge_in}
use Rattle.model.specs.declared.refusal.Refusal.{Refusal}
use Rattle.model.specs.declared.refusal.Refusal.TheVariants.{EndsEarly, WrongTag, WrongLength}
use Rattle.description.specs.declared.field_kind.FieldKind.{FieldKind}
use Rattle.description.specs.declared.field_kind.FieldKind.TheVariants.{Header, Resource, Application, Point, Activity, Edge}
use Rattle.description.specs.PlanFields.{PlanField, a_resource, a_timing, a_point, an_activity, an_edge}

-- The kind of field that a tag begins after a field of the kind `last`, if it is allowed there. The tags are the letters
-- R (82), A (65), P (80), T (84) and E (69).
abbrev pub next_kind : FieldKind → ℕ → Option FieldKind
next_kind Header tag = cond (tag == 82) (Some Resource) None
next_kind Resource tag = cond (tag == 82) (Some Resource) (cond (tag == 65) (Some Application) None)
next_kind Application tag = cond (tag == 80) (Some Point) None
next_kind Point tag = cond (tag == 80) (Some Point) (cond (tag == 65) (Some Application) (cond (tag == 84) (Some Activity) None))
next_kind Activity tag = cond (tag == 84) (Some Activity) (cond (tag == 69) (Some Edge) None)
next_kind Edge tag = cond (tag == 69) (Some Edge) None

-- what a reader answers, of a field that says something of a plan
abbrev pub said : {X : Type 0} → (X → PlanField) → Result X FieldFault → Result PlanField FieldFault
said f r = result_map_both f (λ e. e) r

-- the field of a kind that begins at `at`; no header comes a second time
abbrev pub field_at : FieldKind → List ℕ → ℕ → Result PlanField FieldFault
field_at Header input at = Err Tag
field_at Resource input at = said a_resource (reading 82 18 resource_in input at)
field_at Application input at = said a_timing (reading 65 8 application_in input at)
field_at Point input at = said a_point (reading 80 8 point_in input at)
field_at Activity input at = said an_activity (reading 84 12 activity_in input at)
field_at Edge input at = said an_edge (reading 69 4 edge_in input at)

-- how many bytes a field has: its header and its body
abbrev pub field_size : FieldKind → ℕ
field_size Header = 9
field_size Resource = 21
field_size Application = 11
field_size Point = 11
field_size Activity = 15
field_size Edge = 7

abbrev pub fault_refusal : FieldFault → ℕ → Refusal
fault_refusal Short at = EndsEarly at
fault_refusal Tag at = WrongTag at
fault_refusal Length at = WrongLength at

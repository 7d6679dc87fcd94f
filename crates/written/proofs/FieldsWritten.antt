-- A written field is read back, wherever it stands.
use Rattle.std.proofs.Common.{◌≡◌, ℕ, ◌<◌, List, ◌++◌, length, get_or, Ok, refl, ap, ◌∙◌, lit<}
use Rattle.std.proofs.lemmas.List.{get_or_at}
use Rattle.fields.specs.Fields.{field_of, reading}
use Rattle.fields.proofs.Rounds.{round_at}
use Rattle.records.specs.Resources.{resource_in, resource_bytes, ResourceFits}
use Rattle.records.specs.Applications.{application_in, application_bytes, ApplicationFits}
use Rattle.records.specs.Points.{point_in, point_bytes, PointFits}
use Rattle.records.specs.Activities.{activity_in, activity_bytes, ActivityFits}
use Rattle.records.specs.Edges.{edge_in, edge_bytes, EdgeFits}
use Rattle.records.specs.Returned.{resource_back, application_back, point_back, activity_back, edge_back}
use Rattle.description.specs.declared.field_kind.FieldKind.{FieldKind}
use Rattle.description.specs.declared.field_kind.FieldKind.TheVariants.{Resource, Application, Point, Activity, Edge}
use Rattle.description.specs.PlanFields.{PlanField, a_resource, a_timing, a_point, an_activity, an_edge}
use Rattle.description.specs.Forms.{field_at, field_size, said}
use Rattle.description.specs.Written.{field_bytes}

abbrev pub kind_of : PlanField → FieldKind
kind_of (a_resource x) = Resource
kind_of (a_timing x) = Application
kind_of (a_point x) = Point
kind_of (an_activity x) = Activity
kind_of (an_edge x) = Edge

abbrev pub letter : PlanField → ℕ
letter (a_resource x) = 82
letter (a_timing x) = 65
letter (a_point x) = 80
letter (an_activity x) = 84
letter (an_edge x) = 69

-- its numbers fit the bytes that they are written in
abbrev pub Fits : PlanField → Type 0
Fits (a_resource x) = ResourceFits x
Fits (a_timing x) = ApplicationFits x
Fits (a_point x) = PointFits x
Fits (an_activity x) = ActivityFits x
Fits (an_edge x) = EdgeFits x

pub size_written : (x : PlanField) → length (field_bytes x) ≡ field_size (kind_of x)
size_written (a_resource x) = refl
size_written (a_timing x) = refl
size_written (a_point x) = refl
size_written (an_activity x) = refl
size_written (an_edge x) = refl

module _ (p rest : List ℕ) where
  pub letter_written : (x : PlanField) → get_or (p ++ (field_bytes x ++ rest)) (length p) 0 ≡ letter x
  letter_written (a_resource x) = get_or_at p _ _ 0 (length p) refl
  letter_written (a_timing x) = get_or_at p _ _ 0 (length p) refl
  letter_written (a_point x) = get_or_at p _ _ 0 (length p) refl
  letter_written (an_activity x) = get_or_at p _ _ 0 (length p) refl
  letter_written (an_edge x) = get_or_at p _ _ 0 (length p) refl

  -- one kind of field, whose record is read back
  one_written : {X : Type 0} (tag len : ℕ) (parse : List ℕ → X) (bytes : X → List ℕ) (f : X → PlanField) (x : X)
      → length (bytes x) ≡ len → len < 65536 → parse (bytes x) ≡ x
      → said f (reading tag len parse (p ++ (field_of tag len (bytes x) ++ rest)) (length p)) ≡ Ok (f x)
  one_written tag len parse bytes f x long lt back = ap (said f) (round_at tag len parse p (bytes x) rest long lt ∙ ap Ok back)

  pub field_written : (x : PlanField) → Fits x → field_at (kind_of x) (p ++ (field_bytes x ++ rest)) (length p) ≡ Ok x
  field_written (a_resource x) h = one_written 82 18 resource_in resource_bytes a_resource x refl (lit< tt) (resource_back x h)
  field_written (a_timing x) h = one_written 65 8 application_in application_bytes a_timing x refl (lit< tt) (application_back x h)
  field_written (a_point x) h = one_written 80 8 point_in point_bytes a_point x refl (lit< tt) (point_back x h)
  field_written (an_activity x) h = one_written 84 12 activity_in activity_bytes an_activity x refl (lit< tt) (activity_back x h)
  field_written (an_edge x) h = one_written 69 4 edge_in edge_bytes an_edge x refl (lit< tt) (edge_back x h)

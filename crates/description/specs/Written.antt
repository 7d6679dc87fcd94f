-- The written form of a description: its fields, in their order.
use Rattle.std.specs.Prelude.{ℕ, List, ◌∷◌, ◌++◌, map}
use Rattle.std.specs.List.{flat_map}
use Rattle.fields.specs.Fields.{field_of}
use Rattle.records.specs.Headers.{header_bytes}
use Rattle.records.specs.Resources.{resource_bytes}
use Rattle.records.specs.Applications.{application_bytes}
use Rattle.records.specs.Points.{point_bytes}
use Rattle.records.specs.Activities.{activity_bytes}
use Rattle.records.specs.Edges.{edge_bytes}
use Rattle.description.specs.PlanFields.{PlanField, a_resource, a_timing, a_point, an_activity, an_edge}
use Rattle.description.specs.Descriptions.{Application, Description}

abbrev pub field_bytes : PlanField → List ℕ
field_bytes (a_resource x) = field_of 82 18 (resource_bytes x)
field_bytes (a_timing x) = field_of 65 8 (application_bytes x)
field_bytes (a_point x) = field_of 80 8 (point_bytes x)
field_bytes (an_activity x) = field_of 84 12 (activity_bytes x)
field_bytes (an_edge x) = field_of 69 4 (edge_bytes x)

-- an application is directly followed by its points
abbrev pub application_fields : Application → List PlanField
application_fields a = a_timing (record { period = a.period; bound = a.bound }) ∷ map a_point a.points

-- resources, then applications, then activities, then edges
abbrev pub fields_of : Description → List PlanField
fields_of d =
    map a_resource d.resources ++ (flat_map application_fields d.applications ++ (map an_activity d.activities ++ map an_edge d.edges))

unfoldable pub written : Description → List ℕ
written d = field_of 72 6 (header_bytes (record { version = 1; label = d.label })) ++ flat_map field_bytes (fields_of d)

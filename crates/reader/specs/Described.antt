-- What a value in memory describes.
use Rattle.std.specs.Prelude.{◌<◌, cond, map, length, Some, None, vec_items, vec_len, Option, ◌==◌}
use Rattle.costs.specs.Tables.{points_of, table_points}
use Rattle.description.specs.declared.field_kind.FieldKind.{FieldKind}
use Rattle.description.specs.declared.field_kind.FieldKind.TheVariants.{Header as after_header, Resource as after_resource, Application as after_application, Point as after_point, Activity as after_activity, Edge as after_edge}
use Rattle.description.specs.Descriptions.{Application, Description}
use Rattle.description.specs.Reader.{Reading}
use Rattle.reader.specs.declared.application.Application.{Application as Stored}
use Rattle.reader.specs.declared.memory.Description.{Description as Memory}
use Rattle.reader.specs.declared.stage.Draft.{Draft}
use Rattle.reader.specs.declared.stage.Stage.{Stage}
use Rattle.reader.specs.declared.stage.Stage.TheVariants.{Header, Resource, Application as Drafting, Activity, Edge}

abbrev pub application_of : Stored → Application
application_of a = record { period = a.period; bound = a.bound; points = table_points a.costs }

abbrev pub described : Memory → Description
described d = record {
  label = d.label;
  resources = vec_items d.resources;
  applications = map application_of (vec_items d.applications);
  activities = vec_items d.activities;
  edges = vec_items d.edges;
}

abbrev pub drafted : Draft → Application
drafted a = record { period = a.period; bound = a.bound; points = points_of a.points }

-- the kind of the last field
abbrev pub last_of : Stage → FieldKind
last_of Header = after_header
last_of Resource = after_resource
last_of (Drafting a) = cond (length (points_of a.points) == 0) after_application after_point
last_of Activity = after_activity
last_of Edge = after_edge

abbrev pub current_of : Stage → Option Application
current_of Header = None
current_of Resource = None
current_of (Drafting a) = Some (drafted a)
current_of Activity = None
current_of Edge = None

abbrev pub reading_of : Memory → Stage → Reading
reading_of d s = record { last = last_of s; so_far = described d; current = current_of s }

-- there is room for the application that is being read
abbrev pub Roomy : Memory → Stage → Type 0
Roomy d Header = Unit {0}
Roomy d Resource = Unit {0}
Roomy d (Drafting a) = vec_len d.applications < 64
Roomy d Activity = Unit {0}
Roomy d Edge = Unit {0}

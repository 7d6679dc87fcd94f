-- A description with one part more.
use Rattle.std.specs.Prelude.{[], ◌∷◌, ◌++◌}
use Rattle.records.specs.declared.resource.Resource.{Resource}
use Rattle.records.specs.declared.activity.Activity.{Activity}
use Rattle.records.specs.declared.edge.Edge.{Edge}
use Rattle.description.specs.Descriptions.{Description}

abbrev pub with_resource : Description → Resource → Description
with_resource d x = record d { resources = d.resources ++ x ∷ [] }

abbrev pub with_activity : Description → Activity → Description
with_activity d x = record d { activities = d.activities ++ x ∷ [] }

abbrev pub with_edge : Description → Edge → Description
with_edge d x = record d { edges = d.edges ++ x ∷ [] }

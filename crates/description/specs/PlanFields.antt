-- What the fields of a plan file say, after its header.
use Rattle.records.specs.declared.application.ApplicationField.{ApplicationField}
use Rattle.records.specs.declared.point.Point.{Point}
use Rattle.records.specs.declared.resource.Resource.{Resource}
use Rattle.records.specs.declared.activity.Activity.{Activity}
use Rattle.records.specs.declared.edge.Edge.{Edge}

pub data PlanField : Type 0 where
  a_resource : Resource → PlanField
  a_timing : ApplicationField → PlanField
  a_point : Point → PlanField
  an_activity : Activity → PlanField
  an_edge : Edge → PlanField

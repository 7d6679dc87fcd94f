-- The points that a value holds.
use Rattle.std.specs.Prelude.{List, take, length, cond, Option, Some, None, nat_lt}
use Rattle.records.specs.declared.point.Point.{Point}
use Rattle.costs.specs.declared.point.PointFault.{PointFault}
use Rattle.costs.specs.declared.point.PointFault.TheVariants.{Full, OutOfLimits, NotRising}
use Rattle.costs.specs.declared.points.Points.{Points}
use Rattle.costs.specs.declared.table.CostTable.{CostTable}
use Rattle.records.specs.Points.{point_right}
use Rattle.costs.specs.Costs.{last_latency}

abbrev pub points_of : Points → List Point
points_of p = take p.count p.items

abbrev pub table_points : CostTable → List Point
table_points t = points_of t.points

-- why one point more is not taken, if it is not
abbrev pub push_fault : List Point → Point → Option PointFault
push_fault xs x =
    cond (nat_lt (length xs) 20)
    (cond (point_right x) (cond (nat_lt (last_latency xs) x.latency) None (Some NotRising)) (Some OutOfLimits))
    (Some Full)

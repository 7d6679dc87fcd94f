-- A point of a cost table.
use Rattle.std.specs.Prelude.{ℕ, ◌^◌, ◌<◌, Bool, ◌&&◌, List, ◌++◌, nat_le}
use Rattle.fields.specs.Bytes.{four_at, four_of}
use Rattle.records.specs.declared.point.Point.{Point}

abbrev pub point_in : List ℕ → Point
point_in xs = record { latency = four_at xs 0; cost = four_at xs 4 }

abbrev pub point_bytes : Point → List ℕ
point_bytes x = four_of x.latency ++ (four_of x.cost)

-- each number of several bytes fits its type
abbrev pub PointFits : Point → Type 0
PointFits x = (x.latency < 2 ^ 32) × (x.cost < 2 ^ 32)

-- the limits of a point
abbrev pub point_right : Point → Bool
point_right x = (nat_le 1 x.latency && nat_le x.latency 2000000) && (nat_le 1000 x.cost && nat_le x.cost 1000000)

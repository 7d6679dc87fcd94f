-- The points of a cost table, in the order of their latencies.
use Rattle.std.specs.Prelude.{◌≡◌, ℕ, ◌≤◌, Bool, true, ◌&&◌, List, [], ◌∷◌, length, take, nat_lt}
use Rattle.records.specs.declared.point.Point.{Point}
use Rattle.records.specs.Points.{point_right}

-- the latency of the last point; of no points, the one given
abbrev pub last_from : ℕ → List Point → ℕ
last_from low [] = low
last_from low (x ∷ xs) = last_from x.latency xs

abbrev pub last_latency : List Point → ℕ
last_latency xs = last_from 0 xs

-- each point is within its limits, and its latency is above the one before
abbrev pub right_from : ℕ → List Point → Bool
right_from low [] = true
right_from low (x ∷ xs) = (point_right x && nat_lt low x.latency) && right_from x.latency xs

abbrev pub points_right : List Point → Bool
points_right xs = right_from 0 xs

-- one point more may follow these
abbrev pub may_follow : List Point → Point → Bool
may_follow xs x = point_right x && nat_lt (last_latency xs) x.latency

-- the first points of an array
abbrev pub Kept : List Point → ℕ → Type 0
Kept items count = (length items ≡ 20) × (count ≤ 20) × (points_right (take count items) ≡ true)

-- Every limit of a plan, each stated once. Limits of a point stand with the point.
use Rattle.std.specs.Prelude.{◌≡◌, ℕ, zero, suc, ◌+◌, ◌*◌, ◌^◌, ◌<◌, ◌≤◌, Bool, true, false, ◌&&◌, ◌||◌, List, [], ◌∷◌, length, is_some, ◌==◌, nat_le, nat_lt}
use Rattle.std.specs.List.{AllByRecursion}
use Rattle.kinds.specs.Relations.{Relations}
use Rattle.costs.specs.Costs.{last_latency, points_right}
use Rattle.records.specs.declared.resource.Resource.{Resource}
use Rattle.records.specs.declared.activity.Activity.{Activity}
use Rattle.records.specs.declared.edge.Edge.{Edge}
use Rattle.description.specs.Descriptions.{Application, Description, resource_at, application_at, activity_at}

abbrev pub among : ℕ → ℕ → ℕ → Bool
among low high n = nat_le low n && nat_le n high

-- how many of each a plan may have
abbrev pub most_resources : ℕ
most_resources = 32

abbrev pub most_applications : ℕ
most_applications = 64

abbrev pub most_points : ℕ
most_points = 20

abbrev pub most_activities : ℕ
most_activities = 512

abbrev pub most_edges : ℕ
most_edges = 1024

abbrev pub most_cells : ℕ
most_cells = 2048

-- a period, and a latency bound of at most two periods
abbrev pub timing_right : ℕ → ℕ → Bool
timing_right period bound = among 100 1000000 period && among 1 (2 * period) bound

-- a cost table has at least two points, and reaches to the latency bound
abbrev pub table_right : Application → Bool
table_right a = nat_le 2 (length a.points) && nat_le a.bound (last_latency a.points)

-- the kind of resource finds its numbers right
abbrev pub resource_right : Relations → Resource → Bool
resource_right r x = r.sound x.kind x.numbers

-- an activity names a known application and a known resource; its turns, demand and jitter are within their limits
abbrev pub activity_right : Description → Activity → Bool
activity_right d a =
    nat_lt a.application (length d.applications)
    && (nat_lt a.resource (length d.resources)
    && (among 1 64 a.turns
    && (among 1 1000000 a.demand
    && nat_lt a.jitter (application_at d a.application).period)))

-- the activity's resource takes its demand
abbrev pub demand_taken : Relations → Description → Activity → Bool
demand_taken r d a = is_some (r.span (resource_at d a.resource).kind (resource_at d a.resource).numbers a.demand)

-- an edge leads from a lower to a higher activity of one application
abbrev pub edge_right : Description → Edge → Bool
edge_right d e =
    nat_lt e.from e.to
    && (nat_lt e.to (length d.activities)
    && (activity_at d e.from).application == (activity_at d e.to).application)

-- how many cells: one for each turn
abbrev pub cell_count : List Activity → ℕ
cell_count [] = 0
cell_count (a ∷ rest) = a.turns + cell_count rest

-- some activity belongs to application i
abbrev pub has_activity : ℕ → List Activity → Bool
has_activity i [] = false
has_activity i (a ∷ rest) = a.application == i || has_activity i rest

-- each of the first n applications has one
abbrev pub all_active : ℕ → List Activity → Bool
all_active zero activities = true
all_active (suc n) activities = has_activity n activities && all_active n activities

-- A description within all limits. What no limit bounds fits the bytes that it is written in.
pub record Within (r : Relations) (d : Description) : Type 0 where
  pub label_fits : d.label < 2 ^ 32
  pub some_resources : 1 ≤ length d.resources
  pub few_resources : length d.resources ≤ most_resources
  pub resources_right : AllByRecursion (λ x. resource_right r x ≡ true) d.resources
  pub kinds_fit : AllByRecursion (λ x. x.kind < 2 ^ 16) d.resources
  pub numbers_fit : AllByRecursion (λ x. (length x.numbers ≡ 4) × AllByRecursion (λ n. n < 2 ^ 32) x.numbers) d.resources
  pub some_applications : 1 ≤ length d.applications
  pub few_applications : length d.applications ≤ most_applications
  pub timings_right : AllByRecursion (λ a. timing_right a.period a.bound ≡ true) d.applications
  pub few_points : AllByRecursion (λ a. length a.points ≤ most_points) d.applications
  pub points_rise : AllByRecursion (λ a. points_right a.points ≡ true) d.applications
  pub tables_right : AllByRecursion (λ a. table_right a ≡ true) d.applications
  pub some_activities : 1 ≤ length d.activities
  pub few_activities : length d.activities ≤ most_activities
  pub activities_right : AllByRecursion (λ a. activity_right d a ≡ true) d.activities
  pub demands_taken : AllByRecursion (λ a. demand_taken r d a ≡ true) d.activities
  pub senders_fit : AllByRecursion (λ a. a.sender ≤ 255) d.activities
  pub applications_active : (i : ℕ) → i < length d.applications → has_activity i d.activities ≡ true
  pub few_cells : cell_count d.activities ≤ most_cells
  pub few_edges : length d.edges ≤ most_edges
  pub edges_right : AllByRecursion (λ e. edge_right d e ≡ true) d.edges

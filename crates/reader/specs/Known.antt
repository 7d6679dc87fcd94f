-- What every part of a description keeps, so that it can be looked up.
use Rattle.std.specs.Prelude.{ℕ, ◌<◌, ◌≤◌, List, slice_index_or}
use Rattle.records.specs.declared.activity.Activity.{Activity}
use Rattle.records.specs.declared.edge.Edge.{Edge}
use Rattle.description.specs.Descriptions.{no_activity}

abbrev pub activity_of : List Activity → ℕ → Activity
activity_of xs i = slice_index_or xs i no_activity

abbrev pub no_edge : Edge
no_edge = record { from = 0; to = 0 }

abbrev pub edge_of : List Edge → ℕ → Edge
edge_of xs i = slice_index_or xs i no_edge

-- its application and resource are among so many, and it has 1 to 64 turns
abbrev pub KnownActivity : ℕ → ℕ → Activity → Type 0
KnownActivity applications resources a = (a.application < applications) × (a.resource < resources) × (1 ≤ a.turns) × (a.turns ≤ 64)

-- from a lower to a higher of so many activities
abbrev pub KnownEdge : ℕ → Edge → Type 0
KnownEdge activities e = (e.from < e.to) × (e.to < activities)

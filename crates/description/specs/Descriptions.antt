-- What a plan describes.
use Rattle.std.specs.Prelude.{ℕ, List, [], slice_index_or}
use Rattle.records.specs.declared.point.Point.{Point}
use Rattle.records.specs.declared.resource.Resource.{Resource}
use Rattle.records.specs.declared.activity.Activity.{Activity}
use Rattle.records.specs.declared.edge.Edge.{Edge}

pub record Application : Type 0 where
  pub period : ℕ
  pub bound : ℕ
  -- of its cost table
  pub points : List Point

-- Resources, applications and activities are numbered from 0, in this order.
pub record Description : Type 0 where
  pub label : ℕ
  pub resources : List Resource
  pub applications : List Application
  pub activities : List Activity
  pub edges : List Edge

-- of an empty plan
abbrev pub nothing : Description
nothing = record { label = 0; resources = []; applications = []; activities = []; edges = [] }

-- what stands in for a part that is not there
abbrev pub no_resource : Resource
no_resource = record { kind = 0; numbers = [] }

abbrev pub no_application : Application
no_application = record { period = 0; bound = 0; points = [] }

abbrev pub no_activity : Activity
no_activity = record { application = 0; resource = 0; sender = 0; turns = 0; demand = 0; jitter = 0 }

module _ (d : Description) where
  abbrev pub resource_at : ℕ → Resource
  resource_at i = slice_index_or d.resources i no_resource

  abbrev pub application_at : ℕ → Application
  application_at i = slice_index_or d.applications i no_application

  abbrev pub activity_at : ℕ → Activity
  activity_at i = slice_index_or d.activities i no_activity

-- What the bytes of a plan file say, field after field, and where they are refused. The law above this definition says that
-- a file is accepted exactly when it is the written form of a description within its limits.
use Rattle.std.specs.Prelude.{ℕ, zero, suc, ◌+◌, Bool, true, false, cond, ◌&&◌, ◌||◌, List, [], ◌∷◌, ◌++◌, length, Some, None, Ok, Err, Option, Result, ◌==◌, nat_le, nat_lt, slice_index}
use Rattle.fields.specs.declared.record.FieldFault.{FieldFault}
use Rattle.fields.specs.Fields.{reading}
use Rattle.records.specs.Headers.{header_in}
use Rattle.records.specs.declared.point.Point.{Point as PointPart}
use Rattle.costs.specs.Costs.{may_follow}
use Rattle.kinds.specs.Relations.{Relations}
use Rattle.model.specs.declared.refusal.Refusal.{Refusal}
use Rattle.model.specs.declared.refusal.Refusal.TheVariants.{EndsEarly, WrongTag, OutOfLimits, WrongCount, UnsoundResource, DemandNotTaken, WrongEdge}
use Rattle.description.specs.declared.field_kind.FieldKind.{FieldKind}
use Rattle.description.specs.declared.field_kind.FieldKind.TheVariants.{Header, Resource, Application, Point, Activity, Edge}
use Rattle.description.specs.PlanFields.{PlanField, a_resource, a_timing, a_point, an_activity, an_edge}
use Rattle.description.specs.Descriptions.{Application as ApplicationPart, Description, nothing}
use Rattle.description.specs.Limits.{most_resources, most_applications, most_points, most_activities, most_edges, most_cells, timing_right, table_right, resource_right, activity_right, demand_taken, edge_right, cell_count, all_active}
use Rattle.description.specs.Forms.{next_kind, field_at, field_size, fault_refusal}

-- How far a reader has come: the kind of the last field, what has been described, and the application whose points are being
-- read.
pub record Reading : Type 0 where
  pub last : FieldKind
  pub so_far : Description
  pub current : Option ApplicationPart

abbrev pub begun : ℕ → Reading
begun label = record { last = Header; so_far = record nothing { label = label }; current = None }

abbrev pub current_points : Option ApplicationPart → List PointPart
current_points None = []
current_points (Some a) = a.points

abbrev pub with_applications : Description → List ApplicationPart → Description
with_applications d more = record d { applications = more }

-- the current application is complete, if its cost table is right
abbrev pub completed : FieldKind → Description → Option ApplicationPart → Option Reading
completed last d None = Some (record { last = last; so_far = d; current = None })
completed last d (Some a) =
    cond (table_right a) (Some (record { last = last; so_far = with_applications d (d.applications ++ a ∷ []); current = None })) None

abbrev pub if_fewer : ℕ → ℕ → Reading → Option Reading
if_fewer n most s = cond (nat_lt n most) (Some s) None

abbrev pub if_more_applications : Option Reading → Option Reading
if_more_applications None = None
if_more_applications (Some s) = if_fewer (length s.so_far.applications) most_applications s

abbrev pub if_more_activities : Option Reading → Option Reading
if_more_activities None = None
if_more_activities (Some s) = if_fewer (length s.so_far.activities) most_activities s

abbrev pub is_edge : FieldKind → Bool
is_edge Header = false
is_edge Resource = false
is_edge Application = false
is_edge Point = false
is_edge Activity = false
is_edge Edge = true

abbrev pub active : Description → Bool
active d = all_active (length d.applications) d.activities

-- A field of a kind is about to be read: there may be one more, and what must be complete before it is.
abbrev pub settled : Reading → FieldKind → Option Reading
settled s Header = None
settled s Resource = if_fewer (length s.so_far.resources) most_resources s
settled s Application = if_more_applications (completed s.last s.so_far s.current)
settled s Point = if_fewer (length (current_points s.current)) most_points s
settled s Activity = if_more_activities (completed s.last s.so_far s.current)
settled s Edge = cond (nat_lt (length s.so_far.edges) most_edges && (is_edge s.last || active s.so_far)) (Some s) None

-- why what a field says is refused, if it is
abbrev pub unless : Bool → Refusal → Option Refusal
unless b e = cond b None (Some e)

abbrev pub judged : Relations → Reading → PlanField → ℕ → Option Refusal
judged r s (a_resource x) at = unless (resource_right r x) (UnsoundResource at)
judged r s (a_timing x) at = unless (timing_right x.period x.bound) (OutOfLimits at)
judged r s (a_point x) at = unless (may_follow (current_points s.current) x) (OutOfLimits at)
judged r s (an_activity x) at =
    cond (activity_right s.so_far x)
    (cond (demand_taken r s.so_far x)
    (unless (nat_le (cell_count s.so_far.activities + x.turns) most_cells) (WrongCount at))
    (Some (DemandNotTaken at)))
    (Some (OutOfLimits at))
judged r s (an_edge x) at = unless (edge_right s.so_far x) (WrongEdge at)

abbrev pub with_point : Option ApplicationPart → PointPart → Option ApplicationPart
with_point None x = None
with_point (Some a) x = Some (record a { points = a.points ++ x ∷ [] })

-- one field more
abbrev pub grown : Reading → PlanField → Reading
grown s (a_resource x) = record s { last = Resource; so_far = record (s.so_far) { resources = s.so_far.resources ++ x ∷ [] } }
grown s (a_timing x) = record s { last = Application; current = Some (record { period = x.period; bound = x.bound; points = [] }) }
grown s (a_point x) = record s { last = Point; current = with_point s.current x }
grown s (an_activity x) = record s { last = Activity; so_far = record (s.so_far) { activities = s.so_far.activities ++ x ∷ [] } }
grown s (an_edge x) = record s { last = Edge; so_far = record (s.so_far) { edges = s.so_far.edges ++ x ∷ [] } }

-- how far the reader has come, and where the next field begins
pub record Reached : Type 0 where
  pub reading_is : Reading
  pub place : ℕ

abbrev pub accepted : Reading → PlanField → ℕ → Option Refusal → Result Reached Refusal
accepted s x next (Some e) = Err e
accepted s x next None = Ok (record { reading_is = grown s x; place = next })

abbrev pub judge_field : Relations → Reading → FieldKind → ℕ → Result PlanField FieldFault → Result Reached Refusal
judge_field r s k at (Err f) = Err (fault_refusal f at)
judge_field r s k at (Ok x) = accepted s x (at + field_size k) (judged r s x at)

abbrev pub read_settled : Relations → List ℕ → FieldKind → ℕ → Option Reading → Result Reached Refusal
read_settled r input k at None = Err (WrongCount at)
read_settled r input k at (Some s) = judge_field r s k at (field_at k input at)

abbrev pub read_next : Relations → List ℕ → Reading → ℕ → Option FieldKind → Result Reached Refusal
read_next r input s at None = Err (WrongTag at)
read_next r input s at (Some k) = read_settled r input k at (settled s k)

-- The field at `at`: its header is there, its tag is allowed, there may be one more, length and body are right, and what it says
-- is within its limits.
abbrev pub one_field : Relations → List ℕ → Reading → ℕ → Result Reached Refusal
one_field r input s at =
    cond (nat_lt (length input) (at + 3)) (Err (EndsEarly at)) (read_next r input s at (next_kind s.last (slice_index input at)))

-- the input ends here
abbrev pub ended : Reading → ℕ → Result Description Refusal
ended s at =
    elim s.last [
      | Header ↦ Err (EndsEarly at)
      | Resource ↦ Err (EndsEarly at)
      | Application ↦ Err (EndsEarly at)
      | Point ↦ Err (EndsEarly at)
      | Activity ↦ cond (active s.so_far) (Ok s.so_far) (Err (WrongCount at))
      | Edge ↦ Ok s.so_far
    ]

-- Field after field, up to the end of the input. Each field has more than one byte, so the first number, which bounds how many are
-- read, is never used up where it is above the length of the input.
module _ (r : Relations) (input : List ℕ) where
  unfoldable pub reads : ℕ → Reading → ℕ → Result Description Refusal
  reads zero s at = Err (EndsEarly at)
  reads (suc n) s at =
      cond (nat_lt at (length input))
      (elim (one_field r input s at) [ Err e ↦ Err e | Ok t ↦ reads n t.reading_is t.place ])
      (ended s at)

-- A plan file begins with a header of version 1.
unfoldable pub opened : Relations → List ℕ → Result Description Refusal
opened r input =
    elim (reading 72 6 header_in input 0) [
      | Err f ↦ Err (fault_refusal f 0)
      | Ok h ↦ cond (h.version == 1) (reads r input (suc (length input)) (begun h.label) 9) (Err (OutOfLimits 0))
    ]

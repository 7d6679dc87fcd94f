-- What is written of a record is read back.
use Rattle.std.specs.Prelude.{◌≡◌, ℕ, List, [], ◌∷◌, length, slice_index, refl}
use Rattle.std.proofs.Common.{◌∙◌, arith}
use Rattle.fields.proofs.Pieces.{four_back}
use Rattle.records.specs.declared.header.Header.{Header}
use Rattle.records.specs.declared.resource.Resource.{Resource}
use Rattle.records.specs.declared.application.ApplicationField.{ApplicationField}
use Rattle.records.specs.declared.point.Point.{Point}
use Rattle.records.specs.Headers.{header_in, header_bytes, HeaderFits}
use Rattle.records.specs.Resources.{resource_in, resource_bytes, ResourceFits}
use Rattle.records.specs.Applications.{application_in, application_bytes, ApplicationFits}
use Rattle.records.specs.Points.{point_in, point_bytes, PointFits}
use Rattle.records.specs.declared.activity.Activity.{Activity}
use Rattle.records.specs.declared.edge.Edge.{Edge}
use Rattle.records.specs.Activities.{activity_in, activity_bytes, ActivityFits}
use Rattle.records.specs.declared.cell.CellField.{CellField}
use Rattle.records.specs.Cells.{cell_in, cell_bytes, CellFits}
use Rattle.records.specs.Edges.{edge_in, edge_bytes, EdgeFits}

pub header_back : (x : Header) → HeaderFits x → header_in (header_bytes x) ≡ x
header_back x h =
    let version : (header_in (header_bytes x)).version ≡ x.version = omega arith in
    let label = four_back x.label h.1 in
    λ i. record { version = version i; label = label i }

four_items : (l : List ℕ) → length l ≡ 4 → slice_index l 0 ∷ slice_index l 1 ∷ slice_index l 2 ∷ slice_index l 3 ∷ [] ≡ l
four_items [] e = absurd (omega arith)
four_items (a ∷ []) e = absurd (omega arith)
four_items (a ∷ b ∷ []) e = absurd (omega arith)
four_items (a ∷ b ∷ c ∷ []) e = absurd (omega arith)
four_items (a ∷ b ∷ c ∷ d ∷ []) e = refl
four_items (a ∷ b ∷ c ∷ d ∷ x ∷ l) e = absurd (omega arith)

pub resource_back : (x : Resource) → ResourceFits x → resource_in (resource_bytes x) ≡ x
resource_back x h =
    let kind : (resource_in (resource_bytes x)).kind ≡ x.kind = omega arith in
    let a = four_back (slice_index x.numbers 0) h.2 in
    let b = four_back (slice_index x.numbers 1) h.3 in
    let c = four_back (slice_index x.numbers 2) h.4 in
    let d = four_back (slice_index x.numbers 3) h.5 in
    let numbers = (λ i. a i ∷ b i ∷ c i ∷ d i ∷ []) ∙ four_items x.numbers h.1 in
    λ i. record { kind = kind i; numbers = numbers i }

pub application_back : (x : ApplicationField) → ApplicationFits x → application_in (application_bytes x) ≡ x
application_back x h =
    let period = four_back x.period h.0 in
    let bound = four_back x.bound h.1 in
    λ i. record { period = period i; bound = bound i }

pub point_back : (x : Point) → PointFits x → point_in (point_bytes x) ≡ x
point_back x h =
    let latency = four_back x.latency h.0 in
    let cost = four_back x.cost h.1 in
    λ i. record { latency = latency i; cost = cost i }

pub activity_back : (x : Activity) → ActivityFits x → activity_in (activity_bytes x) ≡ x
activity_back x h =
    let demand = four_back x.demand h.0 in
    let jitter = four_back x.jitter h.1 in
    λ i. record { application = x.application; resource = x.resource; sender = x.sender; turns = x.turns; demand = demand i; jitter = jitter i }

pub edge_back : (x : Edge) → EdgeFits x → edge_in (edge_bytes x) ≡ x
edge_back x h =
    let from : (edge_in (edge_bytes x)).from ≡ x.from = omega arith in
    let to : (edge_in (edge_bytes x)).to ≡ x.to = omega arith in
    λ i. record { from = from i; to = to i }

pub cell_back : (x : CellField) → CellFits x → cell_in (cell_bytes x) ≡ x
cell_back x h =
    let activity : (cell_in (cell_bytes x)).activity ≡ x.activity = omega arith in
    let offset = four_back x.offset h.1 in
    λ i. record { activity = activity i; turn = x.turn; offset = offset i }

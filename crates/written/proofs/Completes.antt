-- The written form of a description within its limits is accepted.
use Rattle.std.proofs.Common.{◌≡◌, ℕ, suc, ◌+◌, ◌*◌, ◌^◌, ◌<◌, ◌≤◌, true, cond, ◌&&◌, eqb, ltb, leb, List, [], ◌∷◌, ◌++◌, map, length, get_or, Some, None, Ok, Err, Option, Result, sym, refl, ap, ◌∙◌, subst, append_assoc, append-nil, arith, lit<, length-append}
use Rattle.std.specs.List.{flat_map, AllByRecursion}
use Rattle.std.proofs.ByRecursion.{All-get_or}
use Rattle.std.proofs.lemmas.Bool.{lt-ltb, ltb-true, leb-true, le-leb, cond-true, and_parts, and_from, or_right}
use Rattle.fields.specs.declared.record.FieldFault.{FieldFault}
use Rattle.fields.specs.Fields.{field_of}
use Rattle.fields.proofs.Rounds.{round_at}
use Rattle.records.specs.declared.header.Header.{Header as Head}
use Rattle.records.specs.Headers.{header_in, header_bytes}
use Rattle.records.specs.Returned.{header_back}
use Rattle.records.specs.declared.point.Point.{Point as PointPart}
use Rattle.records.specs.Points.{point_right}
use Rattle.costs.specs.Costs.{last_from, right_from, points_right, may_follow}
use Rattle.kinds.specs.Relations.{Relations}
use Rattle.model.specs.declared.refusal.Refusal.{Refusal}
use Rattle.model.specs.declared.refusal.Refusal.TheVariants.{OutOfLimits}
use Rattle.records.specs.declared.resource.Resource.{Resource as ResourcePart}
use Rattle.records.specs.declared.activity.Activity.{Activity as ActivityPart}
use Rattle.records.specs.declared.edge.Edge.{Edge as EdgePart}
use Rattle.description.specs.declared.field_kind.FieldKind.{FieldKind}
use Rattle.description.specs.declared.field_kind.FieldKind.TheVariants.{Header, Resource, Application, Point, Activity, Edge}
use Rattle.description.specs.PlanFields.{PlanField, a_resource, a_point, an_activity, an_edge}
use Rattle.description.specs.Descriptions.{Application as ApplicationPart, Description, no_application, application_at}
use Rattle.description.specs.Limits.{Within, among, most_resources, most_applications, most_points, most_activities, most_edges, most_cells, timing_right, table_right, resource_right, activity_right, demand_taken, edge_right, cell_count, all_active}
use Rattle.description.specs.Forms.{next_kind, fault_refusal}
use Rattle.description.specs.Reader.{Reading, begun, completed, if_more_applications, if_more_activities, ended, judged, reads, opened}
use Rattle.description.specs.Written.{field_bytes, application_fields, fields_of, written}
use Rattle.written.proofs.Actives.{all_active-each}
use Rattle.written.proofs.FieldsWritten.{Fits}
use Rattle.written.proofs.ReadsOn.{Step, Leads, ends, goes, leads_read, fields_long}

-- the kind of the last of some fields of the kind l, that came after one of the kind k
abbrev after : {X : Type 0} → FieldKind → FieldKind → List X → FieldKind
after k l [] = k
after k l (x ∷ xs) = l

module _ {X : Type 0} where
  after_push : (k l : FieldKind) (xs : List X) (x : X) → after k l (xs ++ x ∷ []) ≡ l
  after_push k l [] x = refl
  after_push k l (y ∷ xs) x = refl

  after_some : (k l : FieldKind) (xs : List X) → 1 ≤ length xs → after k l xs ≡ l
  after_some k l [] h = absurd (omega arith)
  after_some k l (x ∷ xs) h = refl

  -- what holds of each element holds of one in the middle
  all_here : (P : X → Type 0) (xs : List X) (x : X) (ys : List X) → AllByRecursion P (xs ++ x ∷ ys) → P x
  all_here P [] x ys h = h.0
  all_here P (y ∷ xs) x ys h = all_here P xs x ys h.1

  all_at : (P : X → Type 0) (all xs : List X) (x : X) (ys : List X) → xs ++ x ∷ ys ≡ all → AllByRecursion P all → P x
  all_at P all xs x ys e h = all_here P xs x ys (subst (AllByRecursion P) (sym e) h)

  fewer : (all xs : List X) (x : X) (ys : List X) → xs ++ x ∷ ys ≡ all → length xs < length all
  fewer all xs x ys e = omega (arith, ap length e, length-append xs (x ∷ ys))

-- One field for each element of a list: each takes the reader from the state at the elements before it to the state with it.
module _ (r : Relations) (d : Description) {X : Type 0} (field : X → PlanField) (state : List X → Reading) (all : List X) (tail : List PlanField)
    (step : (done : List X) (x : X) (more : List X) → done ++ x ∷ more ≡ all → Step r (state done) (field x) (state (done ++ x ∷ [])))
    (then : Leads r d (state all) tail) where
  each_leads : (done more : List X) → done ++ more ≡ all → Leads r d (state done) (map field more ++ tail)
  each_leads done [] e = subst (λ l. Leads r d (state l) tail) (sym (sym (append-nil done) ∙ e)) then
  each_leads done (x ∷ more) e =
      goes (step done x more e) (each_leads (done ++ x ∷ []) more (append_assoc done (x ∷ []) more ∙ e))

-- how far a reader has come
abbrev stage : ℕ → FieldKind → List ResourcePart → List ApplicationPart → List ActivityPart → List EdgePart → Option ApplicationPart → Reading
stage label last resources applications activities edges current =
    record { last = last; so_far = record { label = label; resources = resources; applications = applications; activities = activities; edges = edges }; current = current }

-- some resources have been read
abbrev with_resources : Description → List ResourcePart → Reading
with_resources d done = stage d.label (after Header Resource done) done [] [] [] None

-- all of them
abbrev all_resources : Description → Reading
all_resources d = stage d.label Resource d.resources [] [] [] None

-- and some applications, of which the last is not yet known to be complete
abbrev with_current : Description → List ApplicationPart → ApplicationPart → Reading
with_current d done a = stage d.label Point d.resources done [] [] (Some a)

-- and activities
abbrev with_activities : Description → List ApplicationPart → ApplicationPart → List ActivityPart → Reading
with_activities d done a [] = with_current d done a
with_activities d done a (x ∷ xs) = stage d.label Activity d.resources d.applications (x ∷ xs) [] None

-- and edges
abbrev with_edges : Description → List EdgePart → Reading
with_edges d edges = stage d.label (after Activity Edge edges) d.resources d.applications d.activities edges None

-- a point in the middle may follow those before it
right_here : (low : ℕ) (done : List PointPart) (x : PointPart) (more : List PointPart) → right_from low (done ++ x ∷ more) ≡ true
    → (point_right x && ltb (last_from low done) x.latency) ≡ true
right_here low [] x more h = (and_parts _ _ h).0
right_here low (y ∷ done) x more h = right_here y.latency done x more (and_parts _ _ h).1

cells_here : (done : List ActivityPart) (x : ActivityPart) (more : List ActivityPart) → cell_count done + x.turns ≤ cell_count (done ++ x ∷ more)
cells_here [] x more = omega arith
cells_here (y ∷ done) x more = omega (arith, cells_here done x more)

-- what the limits say of numbers that are written in four bytes
timing_low : (period bound : ℕ) → timing_right period bound ≡ true → (period ≤ 1000000) × (bound ≤ 2 * period)
timing_low period bound h =
    let parts = and_parts _ _ h in
    (leb-true _ _ (and_parts _ _ parts.0).1, leb-true _ _ (and_parts _ _ parts.1).1)

point_low : (x : PointPart) → point_right x ≡ true → (x.latency ≤ 2000000) × (x.cost ≤ 1000000)
point_low x h =
    let parts = and_parts _ _ h in
    (leb-true _ _ (and_parts _ _ parts.0).1, leb-true _ _ (and_parts _ _ parts.1).1)

module _ (r : Relations) (d : Description) (w : Within r d) where
  resource_step : (done : List ResourcePart) (x : ResourcePart) (more : List ResourcePart) → done ++ x ∷ more ≡ d.resources
      → Step r (with_resources d done) (a_resource x) (with_resources d (done ++ x ∷ []))
  resource_step done x more e =
      let all = d.resources in
      let numbers = all_at (λ y. (length y.numbers ≡ 4) × AllByRecursion (λ n. n < 2 ^ 32) y.numbers) all done x more e w.numbers_fit in
      let number : (i : ℕ) → i < 4 → get_or x.numbers i 0 < 2 ^ 32 = λ i lt. All-get_or (λ n. n < 2 ^ 32) x.numbers i 0 (omega arith) numbers.1 in
      record {
        fits = (all_at (λ y. y.kind < 2 ^ 16) all done x more e w.kinds_fit, numbers.0, number 0 (omega arith), number 1 (omega arith), number 2 (omega arith), number 3 (omega arith));
        allowed = allowed done;
        ready = with_resources d done;
        settles = cond-true _ _ _ (lt-ltb (length done) most_resources (omega (arith, fewer all done x more e, w.few_resources)));
        accepts = λ at. cond-true _ _ _ (all_at (λ y. resource_right r y ≡ true) all done x more e w.resources_right);
        becomes = ap (λ k. stage d.label k (done ++ x ∷ []) [] [] [] None) (sym (after_push Header Resource done x));
      }
    where
      allowed : (l : List ResourcePart) → next_kind (after Header Resource l) 82 ≡ Some Resource
      allowed [] = refl
      allowed (y ∷ l) = refl

  module _ (done : List ApplicationPart) (a : ApplicationPart) (more : List ApplicationPart) (e : done ++ a ∷ more ≡ d.applications) where
    of_application : (P : ApplicationPart → Type 0) → AllByRecursion P d.applications → P a
    of_application P h = all_at P d.applications done a more e h

    table_is_right : table_right a ≡ true
    table_is_right = of_application (λ b. table_right b ≡ true) w.tables_right

    with_points : List PointPart → Reading
    with_points points = stage d.label (after Application Point points) d.resources done [] [] (Some (record { period = a.period; bound = a.bound; points = points }))

    point_step : (before : List PointPart) (x : PointPart) (rest : List PointPart) → before ++ x ∷ rest ≡ a.points
        → Step r (with_points before) (a_point x) (with_points (before ++ x ∷ []))
    unfolding with_points
    point_step before x rest p =
        let follows : may_follow before x ≡ true = right_here 0 before x rest (ap (right_from 0) p ∙ of_application (λ b. points_right b.points ≡ true) w.points_rise) in
        let low = point_low x (and_parts _ _ follows).0 in
        record {
          fits = (omega arith, omega arith);
          allowed = allowed before;
          ready = with_points before;
          settles = cond-true _ _ _ (lt-ltb (length before) most_points (omega (arith, fewer a.points before x rest p, of_application (λ b. length b.points ≤ most_points) w.few_points)));
          accepts = λ at. cond-true _ _ _ follows;
          becomes = ap (λ k. stage d.label k d.resources done [] [] (Some (record { period = a.period; bound = a.bound; points = before ++ x ∷ [] }))) (sym (after_push Application Point before x));
        }
      where
        allowed : (l : List PointPart) → next_kind (after Application Point l) 80 ≡ Some Point
        allowed [] = refl
        allowed (y ∷ l) = refl

    -- the application's fields, from a state in which all applications before it are complete or about to be completed
    application_leads : (s : Reading) (tail : List PlanField) → next_kind s.last 65 ≡ Some Application
        → completed s.last s.so_far s.current ≡ Some (stage d.label s.last d.resources done [] [] None)
        → Leads r d (with_current d done a) tail → Leads r d s (application_fields a ++ tail)
    unfolding with_points
    application_leads s tail allowed complete then =
        let right = of_application (λ b. timing_right b.period b.bound ≡ true) w.timings_right in
        let low = timing_low a.period a.bound right in
        let some : 2 ≤ length a.points = leb-true _ _ (and_parts _ _ table_is_right).0 in
        goes
        (record {
          fits = (omega arith, omega arith);
          allowed = allowed;
          ready = stage d.label s.last d.resources done [] [] None;
          settles = ap if_more_applications complete ∙ cond-true _ _ _ (lt-ltb (length done) most_applications (omega (arith, fewer d.applications done a more e, w.few_applications)));
          accepts = λ at. cond-true _ _ _ right;
          becomes = refl;
        })
        (each_leads r d a_point with_points a.points tail point_step
        (subst (λ k. Leads r d (stage d.label k d.resources done [] [] (Some a)) tail) (sym (after_some Application Point a.points (omega arith))) then)
        [] a.points refl)

  module _ (tail : List PlanField) where
    -- the applications after the one whose points have been read
    later_lead : ((done : List ApplicationPart) (a : ApplicationPart) → done ++ a ∷ [] ≡ d.applications → Leads r d (with_current d done a) tail)
        → (done : List ApplicationPart) (a : ApplicationPart) (more : List ApplicationPart) → done ++ a ∷ more ≡ d.applications
        → Leads r d (with_current d done a) (flat_map application_fields more ++ tail)
    later_lead then done a [] e = then done a e
    later_lead then done a (b ∷ more) e =
        let next : (done ++ a ∷ []) ++ b ∷ more ≡ d.applications = append_assoc done (a ∷ []) (b ∷ more) ∙ e in
        subst (Leads r d (with_current d done a)) (sym (append_assoc (application_fields b) (flat_map application_fields more) tail))
        (application_leads (done ++ a ∷ []) b more next (with_current d done a) (flat_map application_fields more ++ tail) refl
        (cond-true _ _ _ (table_is_right done a (b ∷ more) e))
        (later_lead then (done ++ a ∷ []) b more next))

    applications_lead : ((done : List ApplicationPart) (a : ApplicationPart) → done ++ a ∷ [] ≡ d.applications → Leads r d (with_current d done a) tail)
        → (all : List ApplicationPart) → all ≡ d.applications
        → Leads r d (all_resources d) (flat_map application_fields all ++ tail)
    applications_lead then [] e = absurd (omega (arith, ap length e, w.some_applications))
    applications_lead then (a ∷ more) e =
        subst (Leads r d (all_resources d)) (sym (append_assoc (application_fields a) (flat_map application_fields more) tail))
        (application_leads [] a more e (all_resources d) (flat_map application_fields more ++ tail) refl refl
        (later_lead then [] a more e))

  activity_accepted : (k : FieldKind) (before : List ActivityPart) (x : ActivityPart) (more : List ActivityPart) → before ++ x ∷ more ≡ d.activities → (at : ℕ)
      → judged r (stage d.label k d.resources d.applications before [] None) (an_activity x) at ≡ None
  activity_accepted k before x more e at =
      cond-true _ _ _ (all_at (λ y. activity_right d y ≡ true) d.activities before x more e w.activities_right)
      ∙ cond-true _ _ _ (all_at (λ y. demand_taken r d y ≡ true) d.activities before x more e w.demands_taken)
      ∙ cond-true _ _ _ (le-leb (cell_count before + x.turns) most_cells (omega (arith, cells_here before x more, ap cell_count e, w.few_cells)))

  activity_low : (x : ActivityPart) → activity_right d x ≡ true → (x.demand ≤ 1000000) × (x.jitter < 1000000)
  activity_low x h =
      let known = and_parts (ltb x.application (length d.applications)) _ h in
      let placed = and_parts (ltb x.resource (length d.resources)) _ known.1 in
      let turned = and_parts (among 1 64 x.turns) _ placed.1 in
      let asked = and_parts (among 1 1000000 x.demand) _ turned.1 in
      let demand : x.demand ≤ 1000000 = leb-true _ _ (and_parts (leb 1 x.demand) _ asked.0).1 in
      let jitter : x.jitter < (application_at d x.application).period = ltb-true _ _ asked.1 in
      let right = All-get_or (λ b. timing_right b.period b.bound ≡ true) d.applications x.application no_application (ltb-true _ _ known.0) w.timings_right in
      let low = timing_low (application_at d x.application).period (application_at d x.application).bound right in
      (demand, omega arith)

  activity_fitting : (before : List ActivityPart) (x : ActivityPart) (more : List ActivityPart) → before ++ x ∷ more ≡ d.activities → Fits (an_activity x)
  activity_fitting before x more e =
      let low = activity_low x (all_at (λ y. activity_right d y ≡ true) d.activities before x more e w.activities_right) in
      (omega arith, omega arith)

  activity_step : (done : List ApplicationPart) (a : ApplicationPart) → done ++ a ∷ [] ≡ d.applications
      → (before : List ActivityPart) (x : ActivityPart) (more : List ActivityPart) → before ++ x ∷ more ≡ d.activities
      → Step r (with_activities d done a before) (an_activity x) (with_activities d done a (before ++ x ∷ []))
  activity_step done a e [] x more p =
      record {
        fits = activity_fitting [] x more p;
        allowed = refl;
        ready = stage d.label Point d.resources d.applications [] [] None;
        settles =
            ap if_more_activities (cond-true _ _ _ (table_is_right done a [] e)) ∙ ap (λ l. Some (stage d.label Point d.resources l [] [] None)) e;
        accepts = activity_accepted Point [] x more p;
        becomes = refl;
      }
  activity_step done a e (y ∷ before) x more p =
      record {
        fits = activity_fitting (y ∷ before) x more p;
        allowed = refl;
        ready = with_activities d done a (y ∷ before);
        settles = cond-true _ _ _ (lt-ltb (length (y ∷ before)) most_activities (omega (arith, fewer d.activities (y ∷ before) x more p, w.few_activities)));
        accepts = activity_accepted Activity (y ∷ before) x more p;
        becomes = refl;
      }

  applications_are_active : all_active (length d.applications) d.activities ≡ true
  applications_are_active = (all_active-each (length d.applications) d.activities).1 w.applications_active

  edge_step : (before : List EdgePart) (x : EdgePart) (more : List EdgePart) → before ++ x ∷ more ≡ d.edges
      → Step r (with_edges d before) (an_edge x) (with_edges d (before ++ x ∷ []))
  edge_step before x more e =
      let right = all_at (λ y. edge_right d y ≡ true) d.edges before x more e w.edges_right in
      let up = and_parts (ltb x.from x.to) _ right in
      let from : x.from < x.to = ltb-true _ _ up.0 in
      let to : x.to < length d.activities = ltb-true _ _ (and_parts (ltb x.to (length d.activities)) _ up.1).0 in
      let few = w.few_activities in
      record {
        fits = (omega arith, omega arith);
        allowed = allowed before;
        ready = with_edges d before;
        settles =
            cond-true _ _ _ (and_from _ _ (lt-ltb (length before) most_edges (omega (arith, fewer d.edges before x more e, w.few_edges))) (or_right _ _ applications_are_active));
        accepts = λ at. cond-true _ _ _ right;
        becomes = ap (λ k. stage d.label k d.resources d.applications d.activities (before ++ x ∷ []) None) (sym (after_push Activity Edge before x));
      }
    where
      allowed : (l : List EdgePart) → next_kind (after Activity Edge l) 69 ≡ Some Edge
      allowed [] = refl
      allowed (y ∷ l) = refl

  edges_end : (edges : List EdgePart) (at : ℕ) → ended (with_edges d edges) at ≡ Ok (with_edges d edges).so_far
  edges_end [] at = cond-true _ _ _ applications_are_active
  edges_end (x ∷ edges) at = refl

  activities_read : (done : List ApplicationPart) (a : ApplicationPart) (activities : List ActivityPart) → 1 ≤ length activities
      → with_activities d done a activities ≡ stage d.label Activity d.resources d.applications activities [] None
  activities_read done a [] h = absurd (omega arith)
  activities_read done a (x ∷ activities) h = refl

  edges_lead : Leads r d (with_edges d []) (map an_edge d.edges)
  edges_lead =
      subst (Leads r d (with_edges d [])) (append-nil (map an_edge d.edges))
      (each_leads r d an_edge (with_edges d) d.edges [] edge_step (ends (edges_end d.edges)) [] d.edges refl)

  activities_lead : (done : List ApplicationPart) (a : ApplicationPart) → done ++ a ∷ [] ≡ d.applications
      → Leads r d (with_current d done a) (map an_activity d.activities ++ map an_edge d.edges)
  activities_lead done a e =
      each_leads r d an_activity (with_activities d done a) d.activities (map an_edge d.edges) (activity_step done a e)
      (subst (λ s. Leads r d s (map an_edge d.edges)) (sym (activities_read done a d.activities w.some_activities)) edges_lead)
      [] d.activities refl

  fields_lead : Leads r d (begun d.label) (fields_of d)
  fields_lead =
      let rest = flat_map application_fields d.applications ++ (map an_activity d.activities ++ map an_edge d.edges) in
      each_leads r d a_resource (with_resources d) d.resources rest resource_step
      (subst (λ k. Leads r d (stage d.label k d.resources [] [] [] None) rest) (sym (after_some Header Resource d.resources w.some_resources))
      (applications_lead (map an_activity d.activities ++ map an_edge d.edges) activities_lead d.applications refl))
      [] d.resources refl

pub written_is_accepted : (r : Relations) (d : Description) → Within r d → opened r (written d) ≡ Ok d
unfolding opened written
written_is_accepted r d w =
    let start : Head = record { version = 1; label = d.label } in
    let head = field_of 72 6 (header_bytes start) in
    let body = flat_map field_bytes (fields_of d) in
    let input = head ++ body in
    let onward : Result Head FieldFault → Result Description Refusal =
    λ o. elim o [ Err f ↦ Err (fault_refusal f 0) | Ok x ↦ cond (eqb x.version 1) (reads r input (suc (length input)) (begun x.label) 9) (Err (OutOfLimits 0)) ] in
    ap onward (round_at 72 6 header_in [] (header_bytes start) body refl (lit< tt) ∙ ap (λ x. Ok x) (header_back start (lit< tt, w.label_fits)))
    ∙ leads_read r d (begun d.label) (fields_of d) head (suc (length input)) (fields_lead r d w) (omega (arith, fields_long (fields_of d), length-append head body))

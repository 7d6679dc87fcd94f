-- What holds of a reader part of the way, and that each field it accepts keeps it.
use Rattle.std.proofs.Common.{◌≡◌, ℕ, ◌+◌, ◌^◌, ◌<◌, ◌≤◌, Bool, true, false, cond, ◌||◌, eqb, ltb, List, [], ◌∷◌, ◌++◌, map, length, Some, None, Option, sym, refl, ap, ◌∙◌, subst, ⊎_elim, arith}
use Rattle.std.specs.List.{flat_map, AllByRecursion}
use Rattle.std.proofs.ByRecursion.{All-push}
use Rattle.std.proofs.lemmas.List.{append-nil, append_assoc, flat_map_more, length_push, map_push}
use Rattle.std.proofs.lemmas.Bool.{and_parts, and_from, or_cases, leb-true, ltb-true}
use Rattle.records.specs.declared.point.Point.{Point as PointPart}
use Rattle.costs.specs.Costs.{points_right, may_follow}
use Rattle.std.proofs.lemmas.Option.{cond_some}
use Rattle.costs.proofs.Rising.{points_right-push}
use Rattle.kinds.specs.Relations.{Relations}
use Rattle.model.specs.declared.refusal.Refusal.{Refusal}
use Rattle.records.specs.declared.resource.Resource.{Resource as ResourcePart}
use Rattle.records.specs.declared.activity.Activity.{Activity as ActivityPart}
use Rattle.records.specs.declared.edge.Edge.{Edge as EdgePart}
use Rattle.description.specs.PlanFields.{PlanField, a_resource, a_timing, a_point, an_activity, an_edge}
use Rattle.records.specs.declared.application.ApplicationField.{ApplicationField}
use Rattle.description.specs.declared.field_kind.FieldKind.{FieldKind}
use Rattle.description.specs.declared.field_kind.FieldKind.TheVariants.{Header, Resource, Application, Point, Activity, Edge}
use Rattle.description.specs.Descriptions.{Application as ApplicationPart, Description}
use Rattle.description.specs.Limits.{most_resources, most_applications, most_points, most_activities, most_edges, most_cells, timing_right, table_right, resource_right, activity_right, demand_taken, edge_right, cell_count}
use Rattle.description.specs.Forms.{next_kind}
use Rattle.description.specs.Reader.{Reading, with_applications, completed, if_more_applications, if_more_activities, is_edge, active, settled, unless, judged, grown}
use Rattle.description.specs.Written.{application_fields, fields_of}
use Rattle.written.proofs.FieldsWritten.{kind_of}
use Rattle.written.proofs.FieldsRead.{Fits}

abbrev pub list_of : Option ApplicationPart → List ApplicationPart
list_of None = []
list_of (Some a) = a ∷ []

-- what has been described, with the current application
abbrev pub whole : Description → Option ApplicationPart → Description
whole d c = with_applications d (d.applications ++ list_of c)

pub whole_none : (d : Description) → whole d None ≡ d
whole_none d = ap (with_applications d) (append-nil d.applications)

-- limits of the parts
abbrev pub ResourcesRight : Relations → List ResourcePart → Type 0
ResourcesRight r xs =
    (length xs ≤ most_resources)
    × AllByRecursion (λ x. resource_right r x ≡ true) xs
    × AllByRecursion (λ x. x.kind < 2 ^ 16) xs
    × AllByRecursion (λ x. (length x.numbers ≡ 4) × AllByRecursion (λ n. n < 2 ^ 32) x.numbers) xs

abbrev pub ApplicationsRight : List ApplicationPart → Type 0
ApplicationsRight xs =
    AllByRecursion (λ a. timing_right a.period a.bound ≡ true) xs
    × AllByRecursion (λ a. length a.points ≤ most_points) xs
    × AllByRecursion (λ a. points_right a.points ≡ true) xs
    × AllByRecursion (λ a. table_right a ≡ true) xs

-- its table need not be right before it is complete
abbrev pub CurrentRight : Option ApplicationPart → Type 0
CurrentRight None = Unit
CurrentRight (Some a) = (timing_right a.period a.bound ≡ true) × (length a.points ≤ most_points) × (points_right a.points ≡ true)

abbrev pub ActivitiesRight : Relations → Description → Type 0
ActivitiesRight r d =
    (length d.activities ≤ most_activities)
    × AllByRecursion (λ a. activity_right d a ≡ true) d.activities
    × AllByRecursion (λ a. demand_taken r d a ≡ true) d.activities
    × AllByRecursion (λ a. a.sender ≤ 255) d.activities
    × (cell_count d.activities ≤ most_cells)

abbrev pub EdgesRight : Description → Type 0
EdgesRight d = (length d.edges ≤ most_edges) × AllByRecursion (λ e. edge_right d e ≡ true) d.edges

pub record Right (r : Relations) (d : Description) (c : Option ApplicationPart) : Type 0 where
  pub label_fits : d.label < 2 ^ 32
  pub resources_right : ResourcesRight r d.resources
  pub few_applications : length d.applications + length (list_of c) ≤ most_applications
  pub applications_right : ApplicationsRight d.applications
  pub current_right : CurrentRight c
  pub activities_right : ActivitiesRight r d
  pub edges_right : EdgesRight d

-- what is there after a field of the kind `last`, and what is not
abbrev pub Stage : FieldKind → Description → Option ApplicationPart → Type 0
Stage Header d None = (d.applications ≡ []) × (d.activities ≡ []) × (d.edges ≡ [])
Stage Header d (Some a) = ⊥
Stage Resource d None = (1 ≤ length d.resources) × (d.applications ≡ []) × (d.activities ≡ []) × (d.edges ≡ [])
Stage Resource d (Some a) = ⊥
Stage Application d None = ⊥
Stage Application d (Some a) = (1 ≤ length d.resources) × (d.activities ≡ []) × (d.edges ≡ [])
Stage Point d None = ⊥
Stage Point d (Some a) = (1 ≤ length d.resources) × (d.activities ≡ []) × (d.edges ≡ [])
Stage Activity d None = (1 ≤ length d.resources) × (1 ≤ length d.applications) × (1 ≤ length d.activities) × (d.edges ≡ [])
Stage Activity d (Some a) = ⊥
Stage Edge d None = (1 ≤ length d.resources) × (1 ≤ length d.applications) × (1 ≤ length d.activities) × (active d ≡ true)
Stage Edge d (Some a) = ⊥

-- the same, before a field of the kind `next`
abbrev Ready : FieldKind → FieldKind → Description → Option ApplicationPart → Type 0
Ready last Header d c = ⊥
Ready last Resource d None = (d.applications ≡ []) × (d.activities ≡ []) × (d.edges ≡ [])
Ready last Resource d (Some a) = ⊥
Ready last Application d c = (1 ≤ length d.resources) × (d.activities ≡ []) × (d.edges ≡ [])
Ready last Point d None = ⊥
Ready last Point d (Some a) = (1 ≤ length d.resources) × (d.activities ≡ []) × (d.edges ≡ [])
Ready last Activity d None = (1 ≤ length d.resources) × (1 ≤ length d.applications) × (d.edges ≡ [])
Ready last Activity d (Some a) = (1 ≤ length d.resources) × (d.activities ≡ []) × (d.edges ≡ [])
Ready last Edge d None = (1 ≤ length d.resources) × (1 ≤ length d.applications) × (1 ≤ length d.activities) × (is_edge last ≡ true → active d ≡ true)
Ready last Edge d (Some a) = ⊥

-- the ways of a test that lead to a kind
kind_by : (P : FieldKind → Type 0) (b : Bool) (one k : FieldKind) (others : Option FieldKind)
    → cond b (Some one) others ≡ Some k → P one → (others ≡ Some k → P k) → P k
kind_by P true one k others e here there = let same : one ≡ k = cc in subst P same here
kind_by P false one k others e here there = there e

-- a tag that may come next
ready : (last : FieldKind) (d : Description) (c : Option ApplicationPart) (tag : ℕ) (k : FieldKind)
    → Stage last d c → next_kind last tag ≡ Some k → Ready last k d c
ready Header d None tag k s e = kind_by (λ k. Ready Header k d None) (eqb tag 82) Resource k None e s (λ e. cc)
ready Header d (Some a) tag k s e = absurd s
ready Resource d None tag k s e =
    kind_by (λ k. Ready Resource k d None) (eqb tag 82) Resource k _ e (s.1, s.2, s.3)
    (λ e. kind_by (λ k. Ready Resource k d None) (eqb tag 65) Application k None e (s.0, s.2, s.3) (λ e. cc))
ready Resource d (Some a) tag k s e = absurd s
ready Application d None tag k s e = absurd s
ready Application d (Some a) tag k s e = kind_by (λ k. Ready Application k d (Some a)) (eqb tag 80) Point k None e s (λ e. cc)
ready Point d None tag k s e = absurd s
ready Point d (Some a) tag k s e =
    kind_by (λ k. Ready Point k d (Some a)) (eqb tag 80) Point k _ e s
    (λ e. kind_by (λ k. Ready Point k d (Some a)) (eqb tag 65) Application k _ e s
    (λ e. kind_by (λ k. Ready Point k d (Some a)) (eqb tag 84) Activity k None e s (λ e. cc)))
ready Activity d None tag k s e =
    kind_by (λ k. Ready Activity k d None) (eqb tag 84) Activity k _ e (s.0, s.1, s.3)
    (λ e. kind_by (λ k. Ready Activity k d None) (eqb tag 69) Edge k None e (s.0, s.1, s.2, λ f. cc) (λ e. cc))
ready Activity d (Some a) tag k s e = absurd s
ready Edge d None tag k s e = kind_by (λ k. Ready Edge k d None) (eqb tag 69) Edge k None e (s.0, s.1, s.2, λ f. s.3) (λ e. cc)
ready Edge d (Some a) tag k s e = absurd s

-- one field more
pub record Grew (r : Relations) (d : Description) (c : Option ApplicationPart) (x : PlanField) (s : Reading) : Type 0 where
  pub right : Right r s.so_far s.current
  pub stage : Stage s.last s.so_far s.current
  pub label_same : s.so_far.label ≡ d.label
  pub fields_more : fields_of (whole s.so_far s.current) ≡ fields_of (whole d c) ++ x ∷ []

-- one element more of a list that comes last
late : {X : Type 0} (ys rest : List X) (y : X) → rest ≡ [] → (ys ++ y ∷ []) ++ rest ≡ (ys ++ rest) ++ y ∷ []
late ys rest y e = simp (e, append-nil)

late_in : {X : Type 0} (front ys rest : List X) (y : X) → rest ≡ [] → front ++ ((ys ++ y ∷ []) ++ rest) ≡ (front ++ (ys ++ rest)) ++ y ∷ []
late_in front ys rest y e = simp (e, append-nil, append_assoc)

joined_push : {X A : Type 0} (f : X → List A) (xs : List X) (x : X) → flat_map f (xs ++ x ∷ []) ≡ flat_map f xs ++ f x
joined_push f xs x = sym (flat_map_more f [] xs x)

all_none : {X : Type 0} (P : X → Type 0) (xs : List X) → xs ≡ [] → AllByRecursion P xs
all_none P xs e = subst (AllByRecursion P) (sym e) tt

cells_push : (xs : List ActivityPart) (x : ActivityPart) → cell_count (xs ++ x ∷ []) ≡ cell_count xs + x.turns
cells_push [] x = omega arith
cells_push (y ∷ xs) x = omega (arith, cells_push xs x)

module _ (r : Relations) (last : FieldKind) (d : Description) where
  grow_resource : (x : ResourcePart) → Right r d None → Ready last Resource d None → length d.resources < most_resources
      → resource_right r x ≡ true → Fits (a_resource x) → Grew r d None (a_resource x) (grown (record { last = last; so_far = d; current = None }) (a_resource x))
  grow_resource x h s few sound fits =
      let rs = d.resources in
      let no_applications = s.0 in
      let no_activities = s.1 in
      let no_edges = s.2 in
      let long = length_push rs x in
      let rest : flat_map application_fields (d.applications ++ []) ++ (map an_activity d.activities ++ map an_edge d.edges) ≡ [] =
      λ i. flat_map application_fields (no_applications i ++ []) ++ (map an_activity (no_activities i) ++ map an_edge (no_edges i)) in
      record {
        right = record {
          label_fits = h.label_fits;
          resources_right = (
            omega arith,
            All-push (λ x. resource_right r x ≡ true) rs x h.resources_right.1 sound,
            All-push (λ x. x.kind < 2 ^ 16) rs x h.resources_right.2 fits.0,
            All-push (λ x. (length x.numbers ≡ 4) × AllByRecursion (λ n. n < 2 ^ 32) x.numbers) rs x h.resources_right.3 (fits.1, fits.2),
          );
          few_applications = h.few_applications;
          applications_right = h.applications_right;
          current_right = tt;
          activities_right =
              (h.activities_right.0, all_none _ _ no_activities, all_none _ _ no_activities, h.activities_right.3, h.activities_right.4);
          edges_right = h.edges_right;
        };
        stage = (omega arith, no_applications, no_activities, no_edges);
        label_same = refl;
        fields_more =
            ap (λ l. l ++ (flat_map application_fields (d.applications ++ []) ++ (map an_activity d.activities ++ map an_edge d.edges))) (map_push a_resource rs x)
            ∙ late (map a_resource rs) _ (a_resource x) rest;
      }

  grow_timing : (x : ApplicationField) → Right r d None → Ready last Application d None → length d.applications < most_applications
      → timing_right x.period x.bound ≡ true → Grew r d None (a_timing x) (grown (record { last = last; so_far = d; current = None }) (a_timing x))
  grow_timing x h s few sound =
      let no_activities = s.1 in
      let no_edges = s.2 in
      let rest : map an_activity d.activities ++ map an_edge d.edges ≡ [] = λ i. map an_activity (no_activities i) ++ map an_edge (no_edges i) in
      let ys = d.applications in
      let more : flat_map application_fields (ys ++ record { period = x.period; bound = x.bound; points = [] } ∷ []) ≡ flat_map application_fields (ys ++ []) ++ a_timing x ∷ [] =
      joined_push application_fields ys (record { period = x.period; bound = x.bound; points = [] }) ∙ ap (λ l. flat_map application_fields l ++ a_timing x ∷ []) (sym (append-nil ys)) in
      record {
        right = record {
          label_fits = h.label_fits;
          resources_right = h.resources_right;
          few_applications = omega arith;
          applications_right = h.applications_right;
          current_right = (sound, omega arith, refl);
          activities_right = h.activities_right;
          edges_right = h.edges_right;
        };
        stage = s;
        label_same = refl;
        fields_more =
            ap (λ l. map a_resource d.resources ++ (l ++ (map an_activity d.activities ++ map an_edge d.edges))) more
            ∙ late_in (map a_resource d.resources) (flat_map application_fields (ys ++ [])) _ (a_timing x) rest;
      }

  grow_point : (a : ApplicationPart) (x : PointPart) → Right r d (Some a) → Ready last Point d (Some a) → length a.points < most_points
      → may_follow a.points x ≡ true → Grew r d (Some a) (a_point x) (grown (record { last = last; so_far = d; current = Some a }) (a_point x))
  grow_point a x h s few sound =
      let no_activities = s.1 in
      let no_edges = s.2 in
      let rest : map an_activity d.activities ++ map an_edge d.edges ≡ [] = λ i. map an_activity (no_activities i) ++ map an_edge (no_edges i) in
      let ys = d.applications in
      let long = length_push a.points x in
      let b : ApplicationPart = record { period = a.period; bound = a.bound; points = a.points ++ x ∷ [] } in
      let one : application_fields b ≡ application_fields a ++ a_point x ∷ [] =
      ap (λ l. a_timing (record { period = a.period; bound = a.bound }) ∷ l) (map_push a_point a.points x) in
      let more : flat_map application_fields (ys ++ b ∷ []) ≡ flat_map application_fields (ys ++ a ∷ []) ++ a_point x ∷ [] =
      joined_push application_fields ys b
      ∙ ap (λ l. flat_map application_fields ys ++ l) one
      ∙ sym (append_assoc (flat_map application_fields ys) (application_fields a) (a_point x ∷ []))
      ∙ ap (λ l. l ++ a_point x ∷ []) (sym (joined_push application_fields ys a)) in
      record {
        right = record {
          label_fits = h.label_fits;
          resources_right = h.resources_right;
          few_applications = h.few_applications;
          applications_right = h.applications_right;
          current_right = (h.current_right.0, omega arith, points_right-push a.points x ∙ and_from _ _ h.current_right.2 sound);
          activities_right = h.activities_right;
          edges_right = h.edges_right;
        };
        stage = s;
        label_same = refl;
        fields_more =
            ap (λ l. map a_resource d.resources ++ (l ++ (map an_activity d.activities ++ map an_edge d.edges))) more
            ∙ late_in (map a_resource d.resources) (flat_map application_fields (ys ++ a ∷ [])) _ (a_point x) rest;
      }

  grow_activity : (x : ActivityPart) → Right r d None → Ready last Activity d None → length d.activities < most_activities
      → activity_right d x ≡ true → demand_taken r d x ≡ true → cell_count d.activities + x.turns ≤ most_cells → Fits (an_activity x)
      → Grew r d None (an_activity x) (grown (record { last = last; so_far = d; current = None }) (an_activity x))
  grow_activity x h s few sound takes cells fits =
      let no_edges = s.2 in
      let ts = d.activities in
      let long = length_push ts x in
      let whole_joined = flat_map application_fields (d.applications ++ []) in
      record {
        right = record {
          label_fits = h.label_fits;
          resources_right = h.resources_right;
          few_applications = h.few_applications;
          applications_right = h.applications_right;
          current_right = tt;
          activities_right = (
            omega arith,
            All-push (λ a. activity_right d a ≡ true) ts x h.activities_right.1 sound,
            All-push (λ a. demand_taken r d a ≡ true) ts x h.activities_right.2 takes,
            All-push (λ a. a.sender ≤ 255) ts x h.activities_right.3 fits,
            omega (arith, cells_push ts x),
          );
          edges_right = (h.edges_right.0, all_none _ _ no_edges);
        };
        stage = (s.0, s.1, omega arith, no_edges);
        label_same = refl;
        fields_more =
            ap (λ l. map a_resource d.resources ++ (whole_joined ++ (l ++ map an_edge d.edges))) (map_push an_activity ts x)
            ∙ ap (λ l. map a_resource d.resources ++ l) (late_in whole_joined (map an_activity ts) (map an_edge d.edges) (an_activity x) (ap (map an_edge) no_edges))
            ∙ sym (append_assoc (map a_resource d.resources) (whole_joined ++ (map an_activity ts ++ map an_edge d.edges)) (an_activity x ∷ []));
      }

  grow_edge : (x : EdgePart) → Right r d None → Ready last Edge d None → active d ≡ true → length d.edges < most_edges → edge_right d x ≡ true
      → Grew r d None (an_edge x) (grown (record { last = last; so_far = d; current = None }) (an_edge x))
  grow_edge x h s all few sound =
      let es = d.edges in
      let long = length_push es x in
      record {
        right = record {
          label_fits = h.label_fits;
          resources_right = h.resources_right;
          few_applications = h.few_applications;
          applications_right = h.applications_right;
          current_right = tt;
          activities_right = h.activities_right;
          edges_right = (omega arith, All-push (λ e. edge_right d e ≡ true) es x h.edges_right.1 sound);
        };
        stage = (s.0, s.1, s.2, all);
        label_same = refl;
        fields_more = simp (map_push, append_assoc);
      }

unless_none : (b : Bool) (e : Refusal) → unless b e ≡ None → b ≡ true
unless_none true e h = refl
unless_none false e h = cc

none_then : {A : Type 0} (b : Bool) (o : Option A) (x : A) → cond b o (Some x) ≡ None → (b ≡ true) × (o ≡ None)
none_then true o x h = (refl, h)
none_then false o x h = cc

more_applications : (o : Option Reading) (t : Reading) → if_more_applications o ≡ Some t → (o ≡ Some t) × (length t.so_far.applications < most_applications)
more_applications None t e = cc
more_applications (Some u) t e =
    let p = cond_some _ u t e in
    (ap Some p.1, subst (λ t. length t.so_far.applications < most_applications) p.1 (ltb-true _ most_applications p.0))

more_activities : (o : Option Reading) (t : Reading) → if_more_activities o ≡ Some t → (o ≡ Some t) × (length t.so_far.activities < most_activities)
more_activities None t e = cc
more_activities (Some u) t e =
    let p = cond_some _ u t e in
    (ap Some p.1, subst (λ t. length t.so_far.activities < most_activities) p.1 (ltb-true _ most_activities p.0))

-- no activity comes before the current application is complete
abbrev Idle : Description → Option ApplicationPart → Type 0
Idle d None = Unit
Idle d (Some a) = d.activities ≡ []

module _ (r : Relations) (last : FieldKind) (d : Description) where
  -- the current application is complete
  whole_right : (c : Option ApplicationPart) (t : Reading) → Right r d c → Idle d c → completed last d c ≡ Some t
      → (record { last = last; so_far = whole d c; current = None } ≡ t) × Right r (whole d c) None
  whole_right None t h s e =
      (subst (λ w. record { last = last; so_far = w; current = None } ≡ t) (sym (whole_none d)) (cc), subst (λ w. Right r w None) (sym (whole_none d)) h)
  whole_right (Some a) t h s e =
      let p = cond_some (table_right a) (record { last = last; so_far = whole d (Some a); current = None }) t e in
      let ys = d.applications in
      let long = length_push ys a in (
        p.1,
        record {
          label_fits = h.label_fits;
          resources_right = h.resources_right;
          few_applications = omega arith;
          applications_right = (
            All-push (λ a. timing_right a.period a.bound ≡ true) ys a h.applications_right.0 h.current_right.0,
            All-push (λ a. length a.points ≤ most_points) ys a h.applications_right.1 h.current_right.1,
            All-push (λ a. points_right a.points ≡ true) ys a h.applications_right.2 h.current_right.2,
            All-push (λ a. table_right a ≡ true) ys a h.applications_right.3 p.0,
          );
          current_right = tt;
          activities_right = (h.activities_right.0, all_none _ _ s, h.activities_right.2, h.activities_right.3, h.activities_right.4);
          edges_right = h.edges_right;
        },
      )

  from_whole : (c : Option ApplicationPart) (x : PlanField) (s : Reading) → Grew r (whole d c) None x s → Grew r d c x s
  from_whole c x s g = record {
    right = g.right;
    stage = g.stage;
    label_same = g.label_same;
    fields_more = g.fields_more ∙ ap (λ w. fields_of w ++ x ∷ []) (whole_none (whole d c));
  }

  idle_timing : (c : Option ApplicationPart) → Ready last Application d c → Idle d c
  idle_timing None s = tt
  idle_timing (Some a) s = s.1

  idle_activity : (c : Option ApplicationPart) → Ready last Activity d c → Idle d c
  idle_activity None s = tt
  idle_activity (Some a) s = s.1

  ready_whole : (c : Option ApplicationPart) → Ready last Activity d c → Ready last Activity (whole d c) None
  ready_whole None s = (s.0, subst (λ l. 1 ≤ length l) (sym (append-nil d.applications)) s.1, s.2)
  ready_whole (Some a) s = (s.0, omega (arith, length_push d.applications a), s.2)

  -- a field that is settled and found right
  after_resource : (c : Option ApplicationPart) (x : ResourcePart) (at : ℕ) (t : Reading) → Right r d c → Ready last Resource d c
      → settled (record { last = last; so_far = d; current = c }) Resource ≡ Some t → Fits (a_resource x) → judged r t (a_resource x) at ≡ None
      → Grew r d c (a_resource x) (grown t (a_resource x))
  after_resource None x at t h s e fits j =
      let p = cond_some _ (record { last = last; so_far = d; current = None }) t e in
      subst (λ t. Grew r d None (a_resource x) (grown t (a_resource x))) p.1
      (grow_resource r last d x h s (ltb-true _ most_resources p.0) (unless_none _ _ j) fits)
  after_resource (Some a) x at t h s e fits j = absurd s

  after_timing : (c : Option ApplicationPart) (x : ApplicationField) (at : ℕ) (t : Reading) → Right r d c → Ready last Application d c
      → settled (record { last = last; so_far = d; current = c }) Application ≡ Some t → judged r t (a_timing x) at ≡ None
      → Grew r d c (a_timing x) (grown t (a_timing x))
  after_timing c x at t h s e j =
      let p = more_applications (completed last d c) t e in
      let w = whole_right c t h (idle_timing c s) p.0 in
      subst (λ t. length t.so_far.applications < most_applications → Grew r d c (a_timing x) (grown t (a_timing x))) w.0
      (λ few. from_whole c (a_timing x) _ (grow_timing r last (whole d c) x w.1 s few (unless_none _ _ j))) p.1

  after_point : (c : Option ApplicationPart) (x : PointPart) (at : ℕ) (t : Reading) → Right r d c → Ready last Point d c
      → settled (record { last = last; so_far = d; current = c }) Point ≡ Some t → judged r t (a_point x) at ≡ None
      → Grew r d c (a_point x) (grown t (a_point x))
  after_point None x at t h s e j = absurd s
  after_point (Some a) x at t h s e j =
      let p = cond_some _ (record { last = last; so_far = d; current = Some a }) t e in
      subst (λ t. judged r t (a_point x) at ≡ None → Grew r d (Some a) (a_point x) (grown t (a_point x))) p.1
      (λ j. grow_point r last d a x h s (ltb-true _ most_points p.0) (unless_none _ _ j)) j

  after_activity : (c : Option ApplicationPart) (x : ActivityPart) (at : ℕ) (t : Reading) → Right r d c → Ready last Activity d c
      → settled (record { last = last; so_far = d; current = c }) Activity ≡ Some t → Fits (an_activity x) → judged r t (an_activity x) at ≡ None
      → Grew r d c (an_activity x) (grown t (an_activity x))
  after_activity c x at t h s e fits j =
      let p = more_activities (completed last d c) t e in
      let w = whole_right c t h (idle_activity c s) p.0 in
      subst (λ t. length t.so_far.activities < most_activities → judged r t (an_activity x) at ≡ None → Grew r d c (an_activity x) (grown t (an_activity x))) w.0
      (λ few j.
      let one = none_then (activity_right (whole d c) x) _ _ j in
      let two = none_then (demand_taken r (whole d c) x) _ _ one.1 in
      from_whole c (an_activity x) _
      (grow_activity r last (whole d c) x w.1 (ready_whole c s) few one.0 two.0 (leb-true _ most_cells (unless_none _ _ two.1)) fits)) p.1 j

  after_edge : (c : Option ApplicationPart) (x : EdgePart) (at : ℕ) (t : Reading) → Right r d c → Ready last Edge d c
      → settled (record { last = last; so_far = d; current = c }) Edge ≡ Some t → judged r t (an_edge x) at ≡ None
      → Grew r d c (an_edge x) (grown t (an_edge x))
  after_edge None x at t h s e j =
      let p = cond_some _ (record { last = last; so_far = d; current = None }) t e in
      let q = and_parts (ltb (length d.edges) most_edges) (is_edge last || active d) p.0 in
      subst (λ t. judged r t (an_edge x) at ≡ None → Grew r d None (an_edge x) (grown t (an_edge x))) p.1
      (λ j. grow_edge r last d x h s (⊎_elim s.3 (λ f. f) (or_cases (is_edge last) (active d) q.1)) (ltb-true _ most_edges q.0) (unless_none _ _ j)) j
  after_edge (Some a) x at t h s e j = absurd s

-- a field of the kind that its tag tells
pub grew : (r : Relations) (s t : Reading) (x : PlanField) (at tag : ℕ) → Right r s.so_far s.current → Stage s.last s.so_far s.current
    → next_kind s.last tag ≡ Some (kind_of x) → settled s (kind_of x) ≡ Some t → Fits x → judged r t x at ≡ None
    → Grew r s.so_far s.current x (grown t x)
grew r s t (a_resource x) at tag h g n e fits j = after_resource r s.last s.so_far s.current x at t h (ready _ _ _ tag Resource g n) e fits j
grew r s t (a_timing x) at tag h g n e fits j = after_timing r s.last s.so_far s.current x at t h (ready _ _ _ tag Application g n) e j
grew r s t (a_point x) at tag h g n e fits j = after_point r s.last s.so_far s.current x at t h (ready _ _ _ tag Point g n) e j
grew r s t (an_activity x) at tag h g n e fits j = after_activity r s.last s.so_far s.current x at t h (ready _ _ _ tag Activity g n) e fits j
grew r s t (an_edge x) at tag h g n e fits j = after_edge r s.last s.so_far s.current x at t h (ready _ _ _ tag Edge g n) e j

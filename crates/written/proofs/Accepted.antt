-- What the reader accepts is the written form of a description within its limits.
use Rattle.std.proofs.Common.{◌≡◌, ℕ, zero, suc, ◌+◌, ◌^◌, ◌<◌, ◌≤◌, Bool, true, false, cond, eqb, ltb, List, ◌++◌, length, get_or, drop, Some, None, Ok, Err, Option, Result, sym, refl, ap, ◌∙◌, subst, arith}
use Rattle.std.specs.List.{flat_map, AllByRecursion}
use Rattle.std.proofs.lemmas.List.{append-nil, append_assoc, drop_all, flat_map_more}
use Rattle.std.proofs.lemmas.Bool.{eqb-true, ltb-false}
use Rattle.fields.specs.declared.record.FieldFault.{FieldFault}
use Rattle.fields.specs.Fields.{reading, field_of}
use Rattle.records.specs.declared.header.Header.{Header as HeaderField}
use Rattle.records.specs.Headers.{header_in, header_bytes}
use Rattle.kinds.specs.Relations.{Relations}
use Rattle.model.specs.declared.refusal.Refusal.{Refusal}
use Rattle.model.specs.declared.refusal.Refusal.TheVariants.{OutOfLimits}
use Rattle.description.specs.declared.field_kind.FieldKind.{FieldKind}
use Rattle.description.specs.declared.field_kind.FieldKind.TheVariants.{Header, Resource, Application, Point, Activity, Edge}
use Rattle.description.specs.PlanFields.{PlanField}
use Rattle.description.specs.Descriptions.{Application as ApplicationPart, Description}
use Rattle.description.specs.Limits.{Within}
use Rattle.description.specs.Forms.{next_kind, field_at, field_size, fault_refusal}
use Rattle.description.specs.Reader.{Reading, Reached, active, settled, judged, accepted, judge_field, read_settled, read_next, one_field, ended, begun, reads, opened}
use Rattle.description.specs.Written.{field_bytes, fields_of, written}
use Rattle.written.proofs.Actives.{all_active-each}
use Rattle.written.proofs.FieldsRead.{Taken, ok_else, ok_then, field_taken, header_taken}
use Rattle.written.proofs.Growing.{whole, whole_none, Right, Stage, Grew, grew}

-- what one field that is accepted brings
record Stepped (r : Relations) (input : List ℕ) (s : Reading) (at : ℕ) (v : Reached) : Type 0 where
  x : PlanField
  grown_by : Grew r s.so_far s.current x v.reading_is
  bytes_are : drop at input ≡ field_bytes x ++ drop v.place input

module _ (r : Relations) (input : List ℕ) (small : AllByRecursion (λ b. b < 256) input) (s : Reading) (at : ℕ) (h : Right r s.so_far s.current) (g : Stage s.last s.so_far s.current) where
  -- inwards through the reader of one field, to the way on which it is accepted
  step_accepted : (k : FieldKind) (t : Reading) (x : PlanField) (o : Option Refusal) (v : Reached) → next_kind s.last (get_or input at 0) ≡ Some k → settled s k ≡ Some t → Taken k input at x
      → judged r t x at ≡ o → accepted t x (at + field_size k) o ≡ Ok v → Stepped r input s at v
  step_accepted k t x (Some f) v n e there j a = cc
  step_accepted k t x None v n e there j a =
      let same = there.kind_is in
      subst (Stepped r input s at) (cc) (record {
        x = x;
        grown_by = grew r s t x at (get_or input at 0) h g (n ∙ ap Some (sym same)) (ap (settled s) same ∙ e) there.fits j;
        bytes_are = there.bytes_are;
      })

  step_judged : (k : FieldKind) (t : Reading) (a : Result PlanField FieldFault) (v : Reached) → next_kind s.last (get_or input at 0) ≡ Some k → settled s k ≡ Some t
      → field_at k input at ≡ a → judge_field r t k at a ≡ Ok v → Stepped r input s at v
  step_judged k t (Err f) v n e b a = cc
  step_judged k t (Ok x) v n e b a = step_accepted k t x (judged r t x at) v n e (field_taken input small at k x b) refl a

  step_settled : (k : FieldKind) (o : Option Reading) (v : Reached) → next_kind s.last (get_or input at 0) ≡ Some k → settled s k ≡ o
      → read_settled r input k at o ≡ Ok v → Stepped r input s at v
  step_settled k None v n e a = cc
  step_settled k (Some t) v n e a = step_judged k t (field_at k input at) v n e refl a

  step_next : (o : Option FieldKind) (v : Reached) → next_kind s.last (get_or input at 0) ≡ o → read_next r input s at o ≡ Ok v → Stepped r input s at v
  step_next None v n a = cc
  step_next (Some k) v n a = step_settled k (settled s k) v n refl a

  stepped : (v : Reached) → one_field r input s at ≡ Ok v → Stepped r input s at v
  stepped v e = step_next (next_kind s.last (get_or input at 0)) v refl (ok_else _ _ _ v e).1

-- where an input may end, everything is there
within : (r : Relations) (d : Description) → Right r d None → 1 ≤ length d.resources → 1 ≤ length d.applications → 1 ≤ length d.activities → active d ≡ true → Within r d
within r d h some_r some_a some_t all = record {
  label_fits = h.label_fits;
  some_resources = some_r;
  few_resources = h.resources_right.0;
  resources_right = h.resources_right.1;
  kinds_fit = h.resources_right.2;
  numbers_fit = h.resources_right.3;
  some_applications = some_a;
  few_applications = omega arith;
  timings_right = h.applications_right.0;
  few_points = h.applications_right.1;
  points_rise = h.applications_right.2;
  tables_right = h.applications_right.3;
  some_activities = some_t;
  few_activities = h.activities_right.0;
  activities_right = h.activities_right.1;
  demands_taken = h.activities_right.2;
  senders_fit = h.activities_right.3;
  applications_active = (all_active-each (length d.applications) d.activities).0 all;
  few_cells = h.activities_right.4;
  few_edges = h.edges_right.0;
  edges_right = h.edges_right.1;
}

finished : (r : Relations) (last : FieldKind) (d : Description) (c : Option ApplicationPart) (at : ℕ) (e : Description) → Right r d c → Stage last d c
    → ended (record { last = last; so_far = d; current = c }) at ≡ Ok e → (whole d c ≡ e) × Within r e
finished r Header d c at e h g q = cc
finished r Resource d c at e h g q = cc
finished r Application d c at e h g q = cc
finished r Point d c at e h g q = cc
finished r Activity d None at e h g q =
    let p = ok_then (active d) (Ok d) _ e q in
    let same : d ≡ e = cc in
    (whole_none d ∙ same, subst (Within r) same (within r d h g.0 g.1 g.2 p.0))
finished r Activity d (Some a) at e h g q = absurd g
finished r Edge d None at e h g q =
    let same : d ≡ e = cc in
    (whole_none d ∙ same, subst (Within r) same (within r d h g.0 g.1 g.2 g.3))
finished r Edge d (Some a) at e h g q = absurd g

-- the written form grows by the field's bytes
written_more : (r : Relations) (s : Reading) (x : PlanField) (t : Reading) → Grew r s.so_far s.current x t
    → written (whole s.so_far s.current) ++ field_bytes x ≡ written (whole t.so_far t.current)
unfolding written
written_more r s x t g =
    let label = sym g.label_same in
    let more = sym g.fields_more in
    flat_map_more field_bytes (field_of 72 6 (header_bytes (record { version = 1; label = s.so_far.label }))) (fields_of (whole s.so_far s.current)) x
    ∙ (λ i. field_of 72 6 (header_bytes (record { version = 1; label = label i })) ++ flat_map field_bytes (more i))

module _ (r : Relations) (input : List ℕ) (small : AllByRecursion (λ b. b < 256) input) (d : Description) where
  -- read from any place where what comes before it is the written form of what has been described
  abbrev GoesOn : (Reading → ℕ → Result Description Refusal) → Reading → ℕ → Type 0
  GoesOn next s at =
      Right r s.so_far s.current → Stage s.last s.so_far s.current → input ≡ written (whole s.so_far s.current) ++ drop at input
      → next s at ≡ Ok d → (input ≡ written d) × Within r d

  abbrev after : (Reading → ℕ → Result Description Refusal) → Result Reached Refusal → Result Description Refusal
  after next (Err f) = Err f
  after next (Ok t) = next t.reading_is t.place

  one_more : (next : Reading → ℕ → Result Description Refusal) → ((s : Reading) (at : ℕ) → GoesOn next s at)
      → (s : Reading) (at : ℕ) (v : Result Reached Refusal) → one_field r input s at ≡ v → GoesOn (λ s at. after next v) s at
  one_more next rest s at (Err f) q h g w e = cc
  one_more next rest s at (Ok t) q h g w e =
      let p = stepped r input small s at h g t q in
      let y = p.x in
      let before = written (whole s.so_far s.current) in
      rest t.reading_is t.place p.grown_by.right p.grown_by.stage
      (w ∙ ap (λ l. before ++ l) p.bytes_are ∙ sym (append_assoc before (field_bytes y) (drop t.place input))
      ∙ ap (λ l. l ++ drop t.place input) (written_more r s y t.reading_is p.grown_by)) e

  more_or_end : (next : Reading → ℕ → Result Description Refusal) → ((s : Reading) (at : ℕ) → GoesOn next s at)
      → (s : Reading) (at : ℕ) (b : Bool) → ltb at (length input) ≡ b → GoesOn (λ s at. cond b (after next (one_field r input s at)) (ended s at)) s at
  more_or_end next rest s at true q h g w e = one_more next rest s at (one_field r input s at) refl h g w e
  more_or_end next rest s at false q h g w e =
      let p = finished r s.last s.so_far s.current at d h g e in
      (w ∙ ap (λ l. written (whole s.so_far s.current) ++ l) (drop_all at input (ltb-false at (length input) q)) ∙ append-nil _ ∙ ap written p.0, p.1)

  reads_written : (n : ℕ) (s : Reading) (at : ℕ) → GoesOn (reads r input n) s at
  unfolding reads
  reads_written zero s at h g w e = cc
  reads_written (suc n) s at h g w e = more_or_end (reads r input n) (reads_written n) s at (ltb at (length input)) refl h g w e

  begun_right : (label : ℕ) → label < 2 ^ 32 → Right r (begun label).so_far None
  begun_right label lt = record {
    label_fits = lt;
    resources_right = (omega arith, tt, tt, tt);
    few_applications = omega arith;
    applications_right = (tt, tt, tt, tt);
    current_right = tt;
    activities_right = (omega arith, tt, tt, tt, omega arith);
    edges_right = (omega arith, tt);
  }

  after_header : (a : Result HeaderField FieldFault) → reading 72 6 header_in input 0 ≡ a
      → elim a as (λ a. Result Description Refusal) [
        | Err f ↦ Err (fault_refusal f 0)
        | Ok h ↦ cond (eqb h.version 1) (reads r input (suc (length input)) (begun h.label) 9) (Err (OutOfLimits 0))
      ] ≡ Ok d
      → (input ≡ written d) × Within r d
  unfolding written
  after_header (Err f) q e = cc
  after_header (Ok h) q e =
      let there = header_taken input small h q in
      let p = ok_then (eqb h.version 1) (reads r input (suc (length input)) (begun h.label) 9) _ d e in
      let one = eqb-true h.version 1 p.0 in
      reads_written (suc (length input)) (begun h.label) 9 (begun_right h.label there.1) (refl, refl, refl)
      (there.0 ∙ ap (λ v. field_of 72 6 (header_bytes (record { version = v; label = h.label })) ++ drop 9 input) one) p.1

pub accepted_is_written : (r : Relations) (input : List ℕ) → AllByRecursion (λ b. b < 256) input → (d : Description) → opened r input ≡ Ok d → (input ≡ written d) × Within r d
unfolding opened
accepted_is_written r input small d e = after_header r input small d (reading 72 6 header_in input 0) refl e

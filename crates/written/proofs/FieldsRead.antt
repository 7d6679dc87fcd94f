-- What a reader of one field accepts is that field's bytes.
use Rattle.std.proofs.Common.{◌≡◌, ℕ, ◌+◌, ◌-◌, ◌^◌, ◌<◌, ◌≤◌, Bool, true, false, cond, List, ◌∷◌, ◌++◌, length, get_or, drop, Ok, Err, Result, sym, refl, ap, ◌∙◌, subst, arith}
use Rattle.std.specs.List.{between, AllByRecursion}
use Rattle.std.proofs.ByRecursion.{All-get_or, All-take, All-drop}
use Rattle.std.proofs.lemmas.List.{drop-drop, take-append-drop}
use Rattle.std.proofs.lemmas.List.Edits.{length-between}
use Rattle.std.proofs.lemmas.Bool.{eqb-true, ltb-false}
use Rattle.fields.specs.declared.record.FieldFault.{FieldFault}
use Rattle.fields.specs.Bytes.{two_at, four_at, two_of}
use Rattle.fields.specs.Fields.{reading, field_of}
use Rattle.fields.proofs.Pieces.{one_piece, two_piece}
use Rattle.records.specs.declared.header.Header.{Header as HeaderField}
use Rattle.records.specs.Headers.{header_in, header_bytes}
use Rattle.records.specs.Resources.{resource_in, resource_bytes}
use Rattle.records.specs.Applications.{application_in, application_bytes}
use Rattle.records.specs.Points.{point_in, point_bytes}
use Rattle.records.specs.Activities.{activity_in, activity_bytes}
use Rattle.records.specs.Edges.{edge_in, edge_bytes}
use Rattle.records.specs.Again.{header_again, resource_again, application_again, point_again, activity_again, edge_again}
use Rattle.description.specs.declared.field_kind.FieldKind.{FieldKind}
use Rattle.description.specs.declared.field_kind.FieldKind.TheVariants.{Header, Resource, Application, Point, Activity, Edge}
use Rattle.description.specs.PlanFields.{PlanField, a_resource, a_timing, a_point, an_activity, an_edge}
use Rattle.description.specs.Forms.{field_at, field_size, said}
use Rattle.description.specs.Written.{field_bytes}
use Rattle.written.proofs.FieldsWritten.{kind_of}

pub no_ok : {A E : Type 0} {G : Type 0} (e : E) (v : A) → ◌≡◌ {A = Result A E} (Err e) (Ok v) → G
no_ok e v h = cc

-- the way of a test that leads to an `Ok`
pub ok_else : {A E : Type 0} (b : Bool) (e : E) (y : Result A E) (v : A) → cond b (Err e) y ≡ Ok v → (b ≡ false) × (y ≡ Ok v)
ok_else true e y v h = no_ok e v h
ok_else false e y v h = (refl, h)

pub ok_then : {A E : Type 0} (b : Bool) (x : Result A E) (e : E) (v : A) → cond b x (Err e) ≡ Ok v → (b ≡ true) × (x ≡ Ok v)
ok_then true x e v h = (refl, h)
ok_then false x e v h = no_ok e v h

pub ok_same : {A E : Type 0} (x y : A) → ◌≡◌ {A = Result A E} (Ok x) (Ok y) → x ≡ y
ok_same x y h = cc

-- a field with this tag and length is there, and says x
record Found {R : Type 0} (tag len : ℕ) (parse : List ℕ → R) (input : List ℕ) (at : ℕ) (x : R) : Type 0 where
  tag_is : get_or input at 0 ≡ tag
  length_is : two_at input (at + 1) ≡ len
  inside : at + 3 + len ≤ length input
  said_is : parse (between (at + 3) (at + 3 + len) input) ≡ x

found : {R : Type 0} (tag len : ℕ) (parse : List ℕ → R) (input : List ℕ) (at : ℕ) (x : R) → reading tag len parse input at ≡ Ok x → Found tag len parse input at x
found tag len parse input at x e =
    let one = ok_else _ _ _ _ e in
    let two = ok_then _ _ _ _ one.1 in
    let three = ok_then _ _ _ _ two.1 in
    let four = ok_else _ _ _ _ three.1 in
    record {
      tag_is = eqb-true _ _ two.0;
      length_is = eqb-true _ _ three.0;
      inside = ltb-false (length input) (at + 3 + len) four.0;
      said_is = ok_same _ _ four.1;
    }

-- what a body is, of a field that is there
body_length : (input : List ℕ) (at len : ℕ) → at + 3 + len ≤ length input → length (between (at + 3) (at + 3 + len) input) ≡ len
body_length input at len inside = length-between input (at + 3) (at + 3 + len) inside ∙ omega arith

body_small : (input : List ℕ) (at len : ℕ) → AllByRecursion (λ b. b < 256) input → AllByRecursion (λ b. b < 256) (between (at + 3) (at + 3 + len) input)
body_small input at len small =
    All-take (λ b. b < 256) (at + 3 + len - (at + 3)) (drop (at + 3) input) (All-drop (λ b. b < 256) (at + 3) input small)

-- a field read is the bytes of what it says, where reading a body and writing it again gives the same bytes
field_read : {R : Type 0} (tag len : ℕ) (parse : List ℕ → R) (bytes : R → List ℕ)
    → ((xs : List ℕ) → length xs ≡ len → AllByRecursion (λ b. b < 256) xs → bytes (parse xs) ≡ xs)
    → (input : List ℕ) → AllByRecursion (λ b. b < 256) input → (at : ℕ) (x : R) → Found tag len parse input at x
    → drop at input ≡ field_of tag len (bytes x) ++ drop (at + 3 + len) input
field_read tag len parse bytes again input small at x f =
    let tag_there = f.tag_is in
    let length_there = f.length_is in
    let inside : at + 3 + len ≤ length input = f.inside in
    let body : List ℕ = between (at + 3) (at + 3 + len) input in
    let same : bytes x ≡ body = ap bytes (sym f.said_is) ∙ again body (body_length input at len inside) (body_small input at len small) in
    let rest : drop (at + 3) input ≡ bytes x ++ drop (at + 3 + len) input =
    sym (take-append-drop (at + 3 + len - (at + 3)) (drop (at + 3) input))
    ∙ ap (λ l. body ++ l) (drop-drop (at + 3 + len - (at + 3)) (at + 3) input ∙ ap (λ n. drop n input) (omega arith))
    ∙ ap (λ l. l ++ drop (at + 3 + len) input) (sym same) in
    sym (one_piece input at (omega arith))
    ∙ ap (λ l. get_or input at 0 ∷ l) (sym (two_piece input small (at + 1) (omega arith)))
    ∙ (λ i. tag_there i ∷ (two_of (length_there i) ++ drop (three i) input))
    ∙ ap (λ l. tag ∷ (two_of len ++ l)) rest
  where
    three : at + 1 + 2 ≡ at + 3
    three = omega arith

-- numbers read fit their bytes
two_fits : (xs : List ℕ) (i : ℕ) → AllByRecursion (λ b. b < 256) xs → i + 1 < length xs → two_at xs i < 2 ^ 16
two_fits xs i h lt =
    omega (arith, All-get_or (λ b. b < 256) xs i 0 (omega arith) h, All-get_or (λ b. b < 256) xs (i + 1) 0 lt h)

four_fits : (xs : List ℕ) (i : ℕ) → AllByRecursion (λ b. b < 256) xs → i + 3 < length xs → four_at xs i < 2 ^ 32
four_fits xs i h lt =
    omega (arith, All-get_or (λ b. b < 256) xs i 0 (omega arith) h, All-get_or (λ b. b < 256) xs (i + 1) 0 (omega arith) h, All-get_or (λ b. b < 256) xs (i + 2) 0 (omega arith) h, All-get_or (λ b. b < 256) xs (i + 3) 0 lt h)

-- what no limit bounds fits its bytes
abbrev pub Fits : PlanField → Type 0
Fits (a_resource x) = (x.kind < 2 ^ 16) × (length x.numbers ≡ 4) × AllByRecursion (λ n. n < 2 ^ 32) x.numbers
Fits (a_timing x) = Unit
Fits (a_point x) = Unit
Fits (an_activity x) = x.sender ≤ 255
Fits (an_edge x) = Unit

-- the field of a kind at a place
pub record Taken (k : FieldKind) (input : List ℕ) (at : ℕ) (x : PlanField) : Type 0 where
  pub kind_is : kind_of x ≡ k
  pub fits : Fits x
  pub bytes_are : drop at input ≡ field_bytes x ++ drop (at + field_size k) input

said_ok : {X : Type 0} (f : X → PlanField) (a : Result X FieldFault) (p : PlanField) → said f a ≡ Ok p → (x : X) × (a ≡ Ok x) × (f x ≡ p)
said_ok f (Ok x) p h = (x, refl, cc)
said_ok f (Err e) p h = cc

module _ (input : List ℕ) (small : AllByRecursion (λ b. b < 256) input) (at : ℕ) where
  -- a field that one kind of reader gives
  taken : {X : Type 0} (k : FieldKind) (tag len : ℕ) (parse : List ℕ → X) (bytes : X → List ℕ) (f : X → PlanField)
      → ((xs : List ℕ) → length xs ≡ len → AllByRecursion (λ b. b < 256) xs → bytes (parse xs) ≡ xs)
      → ((x : X) → field_bytes (f x) ≡ field_of tag len (bytes x))
      → ((x : X) → kind_of (f x) ≡ k)
      → ((xs : List ℕ) → length xs ≡ len → AllByRecursion (λ b. b < 256) xs → Fits (f (parse xs)))
      → field_size k ≡ 3 + len
      → (p : PlanField) → said f (reading tag len parse input at) ≡ Ok p → Taken k input at p
  taken k tag len parse bytes f again form kind fit size p e =
      let o = said_ok f (reading tag len parse input at) p e in
      let x = o.0 in
      let there = found tag len parse input at x o.1 in
      let body : List ℕ = between (at + 3) (at + 3 + len) input in
      subst (Taken k input at) o.2 (record {
        kind_is = kind x;
        fits = subst (λ y. Fits (f y)) there.said_is (fit body (body_length input at len there.inside) (body_small input at len small));
        bytes_are =
            field_read tag len parse bytes again input small at x there
            ∙ ap (λ n. field_of tag len (bytes x) ++ drop n input) (omega arith)
            ∙ ap (λ l. l ++ drop (at + field_size k) input) (sym (form x));
      })

  pub field_taken : (k : FieldKind) (p : PlanField) → field_at k input at ≡ Ok p → Taken k input at p
  field_taken Header p e = cc
  field_taken Resource p e =
      taken Resource 82 18 resource_in resource_bytes a_resource resource_again (λ x. refl) (λ x. refl)
      (λ xs l h. (two_fits xs 0 h (omega arith), refl, (four_fits xs 2 h (omega arith), (four_fits xs 6 h (omega arith), (four_fits xs 10 h (omega arith), (four_fits xs 14 h (omega arith), tt)))))) refl p e
  field_taken Application p e = taken Application 65 8 application_in application_bytes a_timing application_again (λ x. refl) (λ x. refl) (λ xs l h. tt) refl p e
  field_taken Point p e = taken Point 80 8 point_in point_bytes a_point point_again (λ x. refl) (λ x. refl) (λ xs l h. tt) refl p e
  field_taken Activity p e =
      taken Activity 84 12 activity_in activity_bytes an_activity activity_again (λ x. refl) (λ x. refl)
      (λ xs l h. omega (arith, All-get_or (λ b. b < 256) xs 2 0 (omega arith) h)) refl p e
  field_taken Edge p e = taken Edge 69 4 edge_in edge_bytes an_edge edge_again (λ x. refl) (λ x. refl) (λ xs l h. tt) refl p e

-- the header at the beginning
pub header_taken : (input : List ℕ) → AllByRecursion (λ b. b < 256) input → (h : HeaderField) → reading 72 6 header_in input 0 ≡ Ok h
    → (input ≡ field_of 72 6 (header_bytes h) ++ drop 9 input) × (h.label < 2 ^ 32)
header_taken input small h e =
    let there = found 72 6 header_in input 0 h e in
    let inside : 9 ≤ length input = there.inside in (
      field_read 72 6 header_in header_bytes header_again input small 0 h there,
      subst (λ y. y.label < 2 ^ 32) there.said_is (four_fits (between 3 9 input) 2 (body_small input 0 6 small) (omega (arith, body_length input 0 6 inside))),
    )

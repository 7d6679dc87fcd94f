-- Written fields are read one after another.
use Rattle.std.proofs.Common.{◌≡◌, ℕ, zero, suc, ◌+◌, ◌<◌, ◌≤◌, List, [], ◌∷◌, ◌++◌, length, Some, None, Ok, Err, Result, sym, ap, ◌∙◌, append_assoc, arith, lit≤, length-append}
use Rattle.std.specs.List.{flat_map}
use Rattle.std.proofs.lemmas.Bool.{lt-ltb, le-ltb, cond-true, cond-false}
use Rattle.kinds.specs.Relations.{Relations}
use Rattle.model.specs.declared.refusal.Refusal.{Refusal}
use Rattle.description.specs.declared.field_kind.FieldKind.{FieldKind}
use Rattle.description.specs.declared.field_kind.FieldKind.TheVariants.{Header, Resource, Application, Point, Activity, Edge}
use Rattle.description.specs.PlanFields.{PlanField}
use Rattle.description.specs.Descriptions.{Description}
use Rattle.description.specs.Forms.{next_kind, field_size}
use Rattle.description.specs.Reader.{Reading, Reached, settled, judged, grown, accepted, judge_field, read_settled, read_next, one_field, ended, reads}
use Rattle.description.specs.Written.{field_bytes}
use Rattle.written.proofs.FieldsWritten.{kind_of, letter, Fits, size_written, letter_written, field_written}

-- a field takes a reader from s to u
pub record Step (r : Relations) (s : Reading) (x : PlanField) (u : Reading) : Type 0 where
  pub fits : Fits x
  pub allowed : next_kind s.last (letter x) ≡ Some (kind_of x)
  pub ready : Reading
  pub settles : settled s (kind_of x) ≡ Some ready
  pub accepts : (at : ℕ) → judged r ready x at ≡ None
  pub becomes : grown ready x ≡ u

-- fields lead a reader from s to a description, at the end of the input
pub data Leads (r : Relations) (d : Description) : Reading → List PlanField → Type 0 where
  ends : {s : Reading} → ((at : ℕ) → ended s at ≡ Ok d) → Leads r d s []
  goes : {s u : Reading} {x : PlanField} {xs : List PlanField} → Step r s x u → Leads r d u xs → Leads r d s (x ∷ xs)

size_some : (k : FieldKind) → 7 ≤ field_size k
size_some Header = lit≤ tt
size_some Resource = lit≤ tt
size_some Application = lit≤ tt
size_some Point = lit≤ tt
size_some Activity = lit≤ tt
size_some Edge = lit≤ tt

-- a field has more than one byte
pub fields_long : (xs : List PlanField) → length xs ≤ length (flat_map field_bytes xs)
fields_long [] = lit≤ tt
fields_long (x ∷ xs) = omega (arith, length-append (field_bytes x) (flat_map field_bytes xs), size_written x, size_some (kind_of x), fields_long xs)

module _ (r : Relations) where
  one_read : (s u : Reading) (x : PlanField) (p rest : List ℕ) → Step r s x u
      → one_field r (p ++ (field_bytes x ++ rest)) s (length p) ≡ Ok (record { reading_is = u; place = length p + field_size (kind_of x) })
  one_read s u x p rest t =
      let input = p ++ (field_bytes x ++ rest) in
      let next = length p + field_size (kind_of x) in
      let long = length-append p (field_bytes x ++ rest) in
      let inner = length-append (field_bytes x) rest in
      let size = size_written x in
      let some = size_some (kind_of x) in
      cond-false _ _ _ (le-ltb (length input) (length p + 3) (omega arith))
      ∙ ap (λ n. read_next r input s (length p) (next_kind s.last n)) (letter_written p rest x)
      ∙ ap (read_next r input s (length p)) t.allowed
      ∙ ap (read_settled r input (kind_of x) (length p)) t.settles
      ∙ ap (judge_field r t.ready (kind_of x) (length p)) (field_written p rest x t.fits)
      ∙ ap (accepted t.ready x next) (t.accepts (length p))
      ∙ ap (λ v. Ok (record { reading_is = v; place = next })) t.becomes

  pub leads_read : (d : Description) (s : Reading) (xs : List PlanField) (p : List ℕ) (n : ℕ) → Leads r d s xs → length xs < n
      → reads r (p ++ flat_map field_bytes xs) n s (length p) ≡ Ok d
  unfolding reads
  leads_read d s xs p zero l lt = absurd (omega arith)
  leads_read d s [] p (suc n) (ends e) lt =
      cond-false _ _ _ (le-ltb (length p) (length (p ++ [])) (omega (arith, length-append {A = ℕ} p []))) ∙ e (length p)
  leads_read d s (x ∷ xs) p (suc n) (goes {u = u} t l) lt =
      let rest = flat_map field_bytes xs in
      let input = p ++ (field_bytes x ++ rest) in
      let long = length-append p (field_bytes x ++ rest) in
      let inner = length-append (field_bytes x) rest in
      let here = length-append p (field_bytes x) in
      let size = size_written x in
      let some = size_some (kind_of x) in
      let place : length p + field_size (kind_of x) ≡ length (p ++ field_bytes x) = omega arith in
      let same = sym (append_assoc p (field_bytes x) rest) in
      let onward : Result Reached Refusal → Result Description Refusal =
      λ o. elim o [ Err e ↦ Err e | Ok v ↦ reads r input n v.reading_is v.place ] in
      cond-true _ _ _ (lt-ltb (length p) (length input) (omega arith))
      ∙ ap onward (one_read s u x p rest t)
      ∙ (λ i. reads r (same i) n u (place i))
      ∙ leads_read d u xs (p ++ field_bytes x) n l (omega arith)

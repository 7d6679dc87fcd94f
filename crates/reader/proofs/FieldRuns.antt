-- The definition of the reader, one field on, refused, and at the end.
use Rattle.std.proofs.Common.{◌≡◌, ℕ, zero, suc, ◌+◌, ◌<◌, ◌≤◌, cond, eqb, List, length, IsErrAnd, Ok, Err, Result, sym, refl, ap, ◌∙◌, arith}
use Rattle.std.proofs.lemmas.Bool.{cond-true, cond-false, lt-ltb, le-ltb, eq-eqb, ne_eqb}
use Rattle.kinds.specs.Relations.{Relations}
use Rattle.fields.specs.declared.record.FieldFault.{FieldFault}
use Rattle.fields.specs.Fields.{reading}
use Rattle.records.specs.declared.header.Header.{Header}
use Rattle.records.specs.Headers.{header_in}
use Rattle.model.specs.declared.refusal.Refusal.{Refusal}
use Rattle.model.specs.declared.refusal.Refusal.TheVariants.{OutOfLimits}
use Rattle.description.specs.Descriptions.{Description}
use Rattle.description.specs.Forms.{fault_refusal}
use Rattle.description.specs.Reader.{Reading, Reached, begun, one_field, ended, reads, opened}
use Rattle.reader.specs.declared.memory.Description.{Description as Memory}
use Rattle.reader.specs.Taken.{Ends}

module _ (r : Relations) (input : List ℕ) where
  after : ℕ → Result Reached Refusal → Result Description Refusal
  after n (Err e) = Err e
  after n (Ok t) = reads r input n t.reading_is t.place

  steps : (n : ℕ) (s : Reading) (at : ℕ) → at < length input → reads r input (suc n) s at ≡ after n (one_field r input s at)
  unfolding reads after
  steps n s at lt =
      cond-true _ _ _ (lt-ltb at (length input) lt)
      ∙ (elim (one_field r input s at) as (λ o. (elim o [ Err e ↦ Err e | Ok t ↦ reads r input n t.reading_is t.place ]) ≡ after n o) [ Err e ↦ refl | Ok t ↦ refl ])

  -- what is left after a field gives the answer, with some bound that is not used up
  pub goes_on : (n : ℕ) (s : Reading) (at : ℕ) (t : Reached) → length input ≤ at + n → at < length input → one_field r input s at ≡ Ok t → at < t.place
      → (m : ℕ) × (length input ≤ t.place + m) × (reads r input (suc m) t.reading_is t.place ≡ reads r input (suc n) s at)
  unfolding after
  goes_on zero s at t enough lt e more = absurd (omega arith)
  goes_on (suc n) s at t enough lt e more = (n, omega arith, sym (steps (suc n) s at lt ∙ ap (after (suc n)) e))

  pub stops : (n : ℕ) (s : Reading) (at : ℕ) (e : Refusal) → at < length input → one_field r input s at ≡ Err e → reads r input (suc n) s at ≡ Err e
  unfolding after
  stops n s at e lt h = steps n s at lt ∙ ap (after n) h

  pub ends : (n : ℕ) (s : Reading) (at : ℕ) → length input ≤ at → reads r input (suc n) s at ≡ ended s at
  unfolding reads
  ends n s at le = cond-false _ _ _ (le-ltb at (length input) le)

-- a step that is refused refuses the whole
pub refused_whole : (res : Result (Unit {0}) Refusal) (e : Refusal) (d : Memory) (answer : Result Description Refusal) → IsErrAnd res (λ y. y ≡ e) → answer ≡ Err e → Ends res d answer
refused_whole (Ok x) e d answer h a = absurd h
refused_whole (Err y) e d answer h a = a ∙ ap (λ x. Err x) (sym h)

module _ (r : Relations) (input : List ℕ) where
  headed : Result Header FieldFault → Result Description Refusal
  headed (Err f) = Err (fault_refusal f 0)
  headed (Ok h) = cond (eqb h.version 1) (reads r input (suc (length input)) (begun h.label) 9) (Err (OutOfLimits 0))

  begins : opened r input ≡ headed (reading 72 6 header_in input 0)
  unfolding opened headed
  begins =
      elim (reading 72 6 header_in input 0) as (λ o. (elim o [ Err f ↦ Err (fault_refusal f 0) | Ok h ↦ cond (eqb h.version 1) (reads r input (suc (length input)) (begun h.label) 9) (Err (OutOfLimits 0)) ]) ≡ headed o)
      [ Err f ↦ refl | Ok h ↦ refl ]

  pub header_fault : (f : FieldFault) → reading 72 6 header_in input 0 ≡ Err f → opened r input ≡ Err (fault_refusal f 0)
  unfolding headed
  header_fault f e = begins ∙ ap headed e

  pub other_version : (h : Header) → reading 72 6 header_in input 0 ≡ Ok h → (h.version ≡ 1 → ⊥) → opened r input ≡ Err (OutOfLimits 0)
  unfolding headed
  other_version h e n = begins ∙ ap headed e ∙ cond-false _ _ _ (ne_eqb h.version 1 n)

  pub header_right : (h : Header) → reading 72 6 header_in input 0 ≡ Ok h → h.version ≡ 1 → opened r input ≡ reads r input (suc (length input)) (begun h.label) 9
  unfolding headed
  header_right h e v = begins ∙ ap headed e ∙ cond-true _ _ _ (eq-eqb h.version 1 v)

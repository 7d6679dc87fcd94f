-- What a step of the reader does, for its private functions.
use Rattle.std.specs.Prelude.{◌≡◌, ℕ, ◌<◌, Some, None, Ok, Err, Option, Result}
use Rattle.fields.specs.declared.record.FieldFault.{FieldFault}
use Rattle.model.specs.declared.refusal.Refusal.{Refusal}
use Rattle.model.specs.declared.refusal.Refusal.TheVariants.{WrongCount}
use Rattle.description.specs.Descriptions.{Description}
use Rattle.description.specs.Forms.{fault_refusal}
use Rattle.description.specs.declared.field_kind.FieldKind.{FieldKind}
use Rattle.description.specs.Reader.{Reading, Reached}
use Rattle.reader.specs.declared.memory.Description.{Description as Memory}
use Rattle.reader.specs.declared.stage.Stage.{Stage}
use Rattle.reader.specs.Described.{described, reading_of, Roomy}

-- the record that was read, or the refusal of the field's fault
abbrev pub Fetched : {X : Type 0} → Result X Refusal → Result X FieldFault → ℕ → Type 0
Fetched (Ok x) read at = read ≡ Ok x
Fetched (Err e) read at = (f : FieldFault) × (read ≡ Err f) × (e ≡ fault_refusal f at)

-- the definition answers the same for the field at `at`, and reaches the same
abbrev pub Goes : Result ℕ Refusal → ℕ → Memory → Stage → Result Reached Refusal → Type 0
Goes (Ok next) at d s reached = (reached ≡ Ok (record { reading_is = reading_of d s; place = next })) × Roomy d s × (at < next)
Goes (Err e) at d s reached = reached ≡ Err e

-- the definition answers the same at the end
abbrev pub Ends : Result (Unit {0}) Refusal → Memory → Result Description Refusal → Type 0
Ends (Ok x) d answer = answer ≡ Ok (described d)
Ends (Err e) d answer = answer ≡ Err e

-- the application that was being read is among the others now, or it is refused here, since its cost table is not right
abbrev pub Completes : Result (Unit {0}) Refusal → ℕ → FieldKind → Memory → Option Reading → Type 0
Completes (Ok x) at last d complete = complete ≡ Some (record { last = last; so_far = described d; current = None })
Completes (Err e) at last d complete = (complete ≡ None) × (e ≡ WrongCount at)

-- A field is a tag byte, a two-byte length and the body.
use Rattle.std.specs.Prelude.{ℕ, ◌+◌, cond, List, ◌∷◌, ◌++◌, length, take, drop, Ok, Err, Result, ◌==◌, nat_lt, slice_index}
use Rattle.std.specs.List.{between}
use Rattle.fields.specs.declared.record.FieldFault.{FieldFault}
use Rattle.fields.specs.declared.record.FieldFault.TheVariants.{Short, Tag, Length}
use Rattle.fields.specs.Bytes.{two_at, two_of}

-- the bytes of a field
abbrev pub field_of : ℕ → ℕ → List ℕ → List ℕ
field_of tag len body = tag ∷ (two_of len ++ body)

-- the tag of the field at `at`, where the three bytes of its header are there
abbrev pub tag_of : List ℕ → ℕ → Result ℕ FieldFault
tag_of input at = cond (nat_lt (length input) (at + 3)) (Err Short) (Ok (slice_index input at))

-- what a reader answers that expects at `at` a field with this tag and length: the header is there, the tag is right, the length is
-- right, and the body is there
abbrev pub reading : {R : Type 0} → ℕ → ℕ → (List ℕ → R) → List ℕ → ℕ → Result R FieldFault
reading tag len parse input at =
    cond (nat_lt (length input) (at + 3)) (Err Short)
    (cond (slice_index input at == tag)
    (cond (two_at input (at + 1) == len)
    (cond (nat_lt (length input) (at + 3 + len)) (Err Short) (Ok (parse (between (at + 3) (at + 3 + len) input))))
    (Err Length))
    (Err Tag))

-- out with these bytes at `at`
abbrev pub placed : List ℕ → ℕ → List ℕ → List ℕ
placed out at bytes = take at out ++ (bytes ++ drop (at + length bytes) out)

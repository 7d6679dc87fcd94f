-- Lines of hexadecimal digits, and the bytes that they spell.
use Rattle.std.specs.Prelude.{◌≡◌, ℕ, ◌-◌, ◌/◌, ◌%◌, ◌==◌, ◌&&◌, ◌||◌, nat_le, Bool, not, if◌then◌else◌, List, [], ◌∷◌, map, filter, Option, Some, None}
use Rattle.std.specs.List.{flat_map}

-- a blank, or the line's end
abbrev pub is_blank : ℕ → Bool
is_blank c = c == 32 || c == 10 || c == 13

-- what a character is worth as a digit, in either case: `0` to `9` are 48 to 57, `a` to `f` are 97 to 102, `A` to `F` are 65 to 70
abbrev pub digit_of : ℕ → Option ℕ
digit_of c =
    if nat_le 48 c && nat_le c 57 then Some (c - 48)
    else if nat_le 97 c && nat_le c 102 then Some (c - 87)
    else if nat_le 65 c && nat_le c 70 then Some (c - 55)
    else None

-- the digits of a line, its blanks passed over
abbrev pub digits : List ℕ → List (Option ℕ)
digits line = map digit_of (filter (λ c. not (is_blank c)) line)

-- the two digits of each byte, the high one first
abbrev pub halves : List ℕ → List ℕ
halves bytes = flat_map (λ b. b / 16 ∷ b % 16 ∷ []) bytes

-- Passing over its blanks, the line is two digits for each of these bytes, and nothing else.
abbrev pub Spells : List ℕ → List ℕ → Type 0
Spells line bytes = digits line ≡ map Some (halves bytes)

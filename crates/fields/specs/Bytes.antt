-- Numbers in two and in four bytes, the most significant byte first.
use Rattle.std.specs.Prelude.{ℕ, ◌+◌, ◌*◌, ◌/◌, ◌%◌, List, [], ◌∷◌, slice_index}

abbrev pub two_at : List ℕ → ℕ → ℕ
two_at xs i = slice_index xs i * 256 + slice_index xs (i + 1)

abbrev pub four_at : List ℕ → ℕ → ℕ
four_at xs i = slice_index xs i * 16777216 + slice_index xs (i + 1) * 65536 + slice_index xs (i + 2) * 256 + slice_index xs (i + 3)

abbrev pub two_of : ℕ → List ℕ
two_of n = (n / 256 % 256) ∷ (n % 256) ∷ []

abbrev pub four_of : ℕ → List ℕ
four_of n = (n / 16777216 % 256) ∷ (n / 65536 % 256) ∷ (n / 256 % 256) ∷ (n % 256) ∷ []

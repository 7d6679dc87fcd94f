-- The line that an answer is printed as: a word, numbers in decimal, each after one space, and a line feed.
use Rattle.std.specs.Prelude.{ℕ, List, [], ◌∷◌, ◌++◌, decimal}
use Rattle.std.specs.List.{flat_map}

abbrev pub spaced : ℕ → List ℕ
spaced n = 32 ∷ decimal n

abbrev pub line_of : List ℕ → List ℕ → List ℕ
line_of word ns = word ++ flat_map spaced ns ++ 10 ∷ []

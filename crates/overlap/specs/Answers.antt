-- What is said of a pair of entries.
use Rattle.std.specs.Prelude.{◌≡◌, ℕ, List, ◌++◌, codes, decimal}
use Rattle.arithmetic.specs.declared.entry.Entry.{Entry}
use Rattle.arithmetic.specs.Entries.{endless}
use Rattle.arithmetic.specs.Occurrences.{begin, Overlap, Never}
use Rattle.overlap.specs.declared.answer.Answer.{Answer}
use Rattle.overlap.specs.declared.answer.Answer.TheVariants.{Never as SaidNever, Overlap as SaidOverlap}

-- the answer is true of the two entries
abbrev pub Tells : Entry → Entry → Answer → Type 0
Tells a b SaidNever = Never (endless a) (endless b)
Tells a b (SaidOverlap m n) =
    (m.begin ≡ begin (endless a) m.number) × (n.begin ≡ begin (endless b) n.number) × Overlap (endless a) m.number (endless b) n.number

-- the bytes that are printed
abbrev pub sentence : Answer → List ℕ
sentence SaidNever = codes "never"
sentence (SaidOverlap m n) =
    codes "occurrence " ++ (decimal m.number ++ (codes " begins at " ++ (decimal m.begin ++ (codes ", occurrence " ++ (decimal n.number ++ (codes " at " ++ decimal n.begin))))))

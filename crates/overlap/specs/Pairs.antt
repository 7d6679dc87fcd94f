-- A pair of entries, from its six figures.
use Rattle.std.specs.Prelude.{ℕ, List, slice_index}
use Rattle.arithmetic.specs.Entries.{Made, Within, Refused as EntryRefused}
use Rattle.overlap.specs.declared.fault.Limits.{Limits}
use Rattle.overlap.specs.declared.fault.Which.TheVariants.{First, Second}
use Rattle.overlap.specs.declared.answer.Answer.{Answer}
use Rattle.overlap.specs.declared.pair.Pair.{Pair}
use Rattle.overlap.specs.Answers.{Tells}

-- Both entries have their figures.
pub record Paired (f : List ℕ) (p : Pair) : Type 0 where
  pub first : Made (slice_index f 0) (slice_index f 1) (slice_index f 2) p.first
  pub second : Made (slice_index f 3) (slice_index f 4) (slice_index f 5) p.second

-- The first entry is refused or, where that is within its limits, the second.
abbrev pub Refused : List ℕ → Limits → Type 0
Refused f x =
    elim x.which [
      | First ↦ EntryRefused (slice_index f 0) (slice_index f 1) (slice_index f 2) x.figure
      | Second ↦ Within (slice_index f 0) (slice_index f 1) (slice_index f 2) × EntryRefused (slice_index f 3) (slice_index f 4) (slice_index f 5) x.figure
    ]

-- The answer is true of the two entries that have these figures.
pub record Answered (f : List ℕ) (x : Answer) : Type 0 where
  pub pair : Pair
  pub paired : Paired f pair
  pub true_of_both : Tells pair.first pair.second x

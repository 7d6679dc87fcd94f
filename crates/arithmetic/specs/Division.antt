-- Division rounded up.
use Rattle.std.specs.Prelude.{ℕ, ◌+◌, ◌*◌, ◌/◌, ◌%◌, ◌≤◌, min}

-- parts of the given size: that many reach the total, and no fewer do
pub record RoundedUp (total size parts : ℕ) : Type 0 where
  pub enough : total ≤ parts * size
  pub least : (n : ℕ) → total ≤ n * size → parts ≤ n

-- the same number as a function: the whole parts, and one more where something is left over
abbrev pub divided_up : ℕ → ℕ → ℕ
divided_up total size = total / size + min 1 (total % size)

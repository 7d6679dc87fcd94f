-- What a kind of resource means: five relations over all whole numbers.
-- A resource is a kind number k and four numbers ns. Times are whole microseconds.
use Rattle.std.specs.Prelude.{ℕ, Bool, List, Option}

pub record Relations : Type 0 where
  -- the kind number is this kind's own
  pub known : ℕ → Bool
  -- it is, and the four numbers are right
  pub sound : ℕ → List ℕ → Bool
  -- the time that a demand occupies, or that it is not taken
  pub span : ℕ → List ℕ → ℕ → Option ℕ
  -- a demand with a repeat may begin at a start
  pub admits : ℕ → List ℕ → ℕ → ℕ → ℕ → Bool
  -- two starts, each with its sender, exclude each other
  pub bars : ℕ → List ℕ → ℕ → ℕ → ℕ → ℕ → Bool

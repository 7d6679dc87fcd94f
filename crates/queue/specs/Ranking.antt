-- What a ranking is.
use Rattle.std.specs.Prelude.{◌≡◌, Bool, true, false}

-- A ranking is total and transitive, and different records never tie: of two different records exactly one ranks before the
-- other.
pub record Ranking {X : Type 0} (before : X → X → Bool) : Type 0 where
  pub one_way : (x y : X) → before x y ≡ true → before y x ≡ false
  pub chain : (x y z : X) → before x y ≡ true → before y z ≡ true → before x z ≡ true
  pub no_tie : (x y : X) → before x y ≡ false → before y x ≡ false → x ≡ y

-- A kind with one number of its own, by what is particular to it. What all such kinds share stands here once.
use Rattle.std.specs.Prelude.{◌≡◌, ℕ, ◌+◌, ◌≤◌, Bool, true, cond, ◌&&◌, List, Some, None, ◌==◌, nat_le}
use Rattle.kinds.specs.Relations.{Relations}

pub record Parts : Type 0 where
  -- its number
  pub number : ℕ
  -- the four numbers are right
  pub right : List ℕ → Bool
  -- a demand of 1 to 1,000,000 is taken, and the time that it then occupies
  pub carries : List ℕ → ℕ → Bool
  pub time : List ℕ → ℕ → ℕ
  -- with a repeat of 1 to 64,000,000 it may begin at a start
  pub grid : List ℕ → ℕ → ℕ → Bool
  -- two starts, each with its sender, exclude each other
  pub clash : List ℕ → ℕ → ℕ → ℕ → ℕ → Bool

abbrev pub demanded : ℕ → Bool
demanded d = nat_le 1 d && nat_le d 1000000

abbrev pub repeated : ℕ → Bool
repeated p = nat_le 1 p && nat_le p 64000000

module _ (x : Parts) where
  abbrev pub sound : ℕ → List ℕ → Bool
  sound k ns = k == x.number && x.right ns

  abbrev pub takes : ℕ → List ℕ → ℕ → Bool
  takes k ns d = sound k ns && (demanded d && x.carries ns d)

  abbrev pub kind : Relations
  kind = record {
    known = λ k. (k == x.number);
    sound = sound;
    span = λ k ns d. cond (takes k ns d) (Some (x.time ns d)) None;
    admits = λ k ns d p s. takes k ns d && (repeated p && x.grid ns p s);
    bars = λ k ns s a t b. sound k ns && x.clash ns s a t b;
  }

-- what the parts keep, so that the kind keeps its laws
pub record Lawful (x : Parts) : Type 0 where
  pub time_limits : (ns : List ℕ) (d : ℕ) → x.right ns ≡ true → demanded d ≡ true → x.carries ns d ≡ true → (1 ≤ x.time ns d) × (x.time ns d ≤ 1000000)
  pub grid_repeats : (ns : List ℕ) (p s : ℕ) → x.grid ns p (s + p) ≡ x.grid ns p s
  pub clash_symmetric : (ns : List ℕ) (s a t b : ℕ) → x.clash ns s a t b ≡ x.clash ns t b s a
  pub clash_moves : (ns : List ℕ) (p s a t b : ℕ) → x.grid ns p s ≡ true → x.clash ns (s + p) a t b ≡ x.clash ns s a t b

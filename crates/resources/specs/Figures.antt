-- Worked figures of links and buses, each as what the definitions answer beside what is said.
use Rattle.std.specs.Prelude.{◌≡◌, ℕ, true, false, List, [], ◌∷◌, Some, None}
use Rattle.buses.specs.Bus.{bus}
use Rattle.resources.specs.Link.{link}

-- a link with rate code 2 and overhead 5
abbrev pub fast : List ℕ
fast = 2 ∷ 5 ∷ 0 ∷ 0 ∷ []

-- a bus with cycle 5,000 and 20 slots of length 200 for up to 32 bytes
abbrev pub slotted : List ℕ
slotted = 5000 ∷ 20 ∷ 200 ∷ 32 ∷ []

pub record ResourceFigures : Type 0 where
  pub demand_1250_has_span_105 : link.span 2 fast 1250 ≡ Some 105
  pub demand_1251_has_span_106 : link.span 2 fast 1251 ≡ Some 106
  pub demand_33_is_not_taken : bus.span 3 slotted 33 ≡ None
  pub repeat_5000_admits_3800 : bus.admits 3 slotted 32 5000 3800 ≡ true
  pub repeat_5000_does_not_admit_4000 : bus.admits 3 slotted 32 5000 4000 ≡ false
  pub repeat_7500_admits_none : (d s : ℕ) → bus.admits 3 slotted d 7500 s ≡ false

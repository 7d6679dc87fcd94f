-- A refusal as eight numbers: number, place, cell as activity and turn, other cell likewise, two occurrences. What does not apply
-- is 0.
use Rattle.std.specs.Prelude.{ℕ, List, [], ◌∷◌}
use Rattle.model.specs.declared.refusal.Clash.{Clash}
use Rattle.model.specs.declared.refusal.PairRule.{PairRule}
use Rattle.model.specs.declared.refusal.PairRule.TheVariants.{TurnOrder, Jitter, Overlap, Bar, Edge, Latency}
use Rattle.model.specs.declared.refusal.Refusal.{Refusal}
use Rattle.model.specs.declared.refusal.Refusal.TheVariants.{EndsEarly, WrongTag, WrongLength, OutOfLimits, WrongCount, UnsoundResource, DemandNotTaken, WrongEdge, UnknownCell, AlreadyPlaced, NotPlaced, Window, Grid, Rule, NoOffset, Unfinished, TooShort, OtherLabel, NoPlan}

-- without a second cell
abbrev pub row : ℕ → ℕ → ℕ → ℕ → ℕ → List ℕ
row number place activity turn first = number ∷ place ∷ activity ∷ turn ∷ 0 ∷ 0 ∷ first ∷ 0 ∷ []

abbrev pub pair_number : PairRule → ℕ
pair_number TurnOrder = 14
pair_number Jitter = 15
pair_number Overlap = 16
pair_number Bar = 17
pair_number Edge = 18
pair_number Latency = 19

abbrev pub clash_numbers : Clash → List ℕ
clash_numbers x =
    pair_number x.rule ∷ x.place ∷ x.cell.activity ∷ x.cell.turn ∷ x.other.activity ∷ x.other.turn ∷ x.first ∷ x.second ∷ []

abbrev pub numbers_of : Refusal → List ℕ
numbers_of (EndsEarly place) = row 1 place 0 0 0
numbers_of (WrongTag place) = row 2 place 0 0 0
numbers_of (WrongLength place) = row 3 place 0 0 0
numbers_of (OutOfLimits place) = row 4 place 0 0 0
numbers_of (WrongCount place) = row 5 place 0 0 0
numbers_of (UnsoundResource place) = row 6 place 0 0 0
numbers_of (DemandNotTaken place) = row 7 place 0 0 0
numbers_of (WrongEdge place) = row 8 place 0 0 0
numbers_of (UnknownCell place cell) = row 9 place cell.activity cell.turn 0
numbers_of (AlreadyPlaced place cell) = row 10 place cell.activity cell.turn 0
numbers_of (NotPlaced cell) = row 11 0 cell.activity cell.turn 0
numbers_of (Window place cell) = row 12 place cell.activity cell.turn cell.turn
numbers_of (Grid place cell) = row 13 place cell.activity cell.turn cell.turn
numbers_of (Rule clash) = clash_numbers clash
numbers_of (NoOffset cell) = row 20 0 cell.activity cell.turn 0
numbers_of (Unfinished cell) = row 21 0 cell.activity cell.turn 0
numbers_of TooShort = row 22 0 0 0 0
numbers_of OtherLabel = row 23 0 0 0 0
numbers_of NoPlan = row 24 0 0 0 0

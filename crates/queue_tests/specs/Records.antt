-- The keys by which the records are ranked, the first that differs deciding.
use Rattle.std.specs.Prelude.{ℕ, cond, List, [], ◌∷◌}
use Rattle.queue_tests.specs.declared.records.Event.{Event}
use Rattle.queue_tests.specs.declared.records.Ready.{Ready}

abbrev pub ready_keys : Ready → List ℕ
ready_keys r = r.slack ∷ r.activity ∷ r.turn ∷ []

abbrev pub event_keys : Event → List ℕ
event_keys e = e.time ∷ cond e.starts 1 0 ∷ e.activity ∷ e.turn ∷ []

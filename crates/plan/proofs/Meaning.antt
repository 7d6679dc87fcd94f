-- What the definition of the reader answers, in the subject's words.
use Rattle.std.proofs.Common.{◌≡◌, ℕ, ◌<◌, List, Ok, Err, Result, sym, ◌∙◌, arith}
use Rattle.std.specs.List.{AllByRecursion}
use Rattle.kinds.specs.Relations.{Relations}
use Rattle.model.specs.declared.refusal.Refusal.{Refusal}
use Rattle.description.specs.Descriptions.{Description}
use Rattle.written.proofs.Exactness.{opening_is_exact}
use Rattle.reader.specs.Answered.{Answers}
use Rattle.plan.specs.Plans.{Means}

pub meaning : (answer : Result (Unit {0}) Refusal) (r : Relations) (input : List ℕ) (plan : Description) → AllByRecursion (λ b. b < 256) input → Answers answer r input plan → Means answer r input plan
meaning (Ok x) r input plan bytes h = (opening_is_exact r input bytes plan).0 h
meaning (Err e) r input plan bytes h =
    λ d w i. let both : Err e ≡ Ok d = sym h.0 ∙ (opening_is_exact r input bytes d).1 w i in
    let z : ◌≡◌ {A = ℕ} 0 1 = cc in omega arith

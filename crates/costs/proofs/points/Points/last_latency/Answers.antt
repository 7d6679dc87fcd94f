use Rattle.std.proofs.Common.{ap, ◌∙◌}
use Rattle.costs.proofs.Rising.{last_of}
use Rattle.costs.specs.Costs.{last_latency}
use Rattle.costs.proofs.points.Points.last_latency.Goals as goal

pub returns-in-Some : goal.returns-in-Some
returns-in-Some c =
    let last = c.in-Some.ensures.item in
    ap (λ p. p.latency) last.1 ∙ last_of c.as_slice.result.now _ last.3.0 ∙ ap last_latency c.as_slice.ensures

use Rattle.std.proofs.Common.{replicate, ap, ◌∙◌, rules}
use borrow.Author.Tests.{tests}
use Rattle.queue.proofs.Overwriting.{filled}
use Rattle.queue.proofs.places.fill.Goals as goal

pub returns : goal.returns
returns g c =
    let item = c.args.item in
    filled _ item _ _ c.fill_with.new.self (λ x f k. search (rules, tests)) c.fill_with.ensures.ran.1 ∙ ap (λ n. replicate n item) c.fill_with.ensures.len

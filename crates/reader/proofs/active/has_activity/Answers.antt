use Rattle.std.proofs.Common.{eqb, ◌∙◌, rules}
use Rattle.std.proofs.lemmas.Iterator.{YieldsList-from_slice}
use Rattle.std.proofs.lemmas.Iterator.Search.{any_from_yields_List}
use borrow.Author.Tests.{tests}
use Rattle.reader.proofs.Actives.{any_active}
use Rattle.reader.proofs.active.has_activity.Goals as goal

pub returns : goal.returns
returns c =
    let i = c.args.application in
    let xs = c.args.activities.now in
    any_from_yields_List (λ a. eqb a.application i) _ _ _ c.any.ensures.ran (YieldsList-from_slice xs c.iter.ensures.rest) (λ x b q k. search (rules, tests))
    ∙ any_active i xs

use Rattle.std.proofs.Common.{vec_items, refl, ap, ◌∙◌, arith, rules}
use Rattle.std.proofs.lemmas.Iterator.{YieldsList-from_range}
use Rattle.std.proofs.lemmas.Iterator.Search.{all_from_yields_List}
use borrow.Author.Tests.{tests}
use Rattle.description.specs.Limits.{has_activity, all_active}
use Rattle.reader.proofs.Actives.{each_active}
use Rattle.reader.proofs.memory.Description.is_active.Goals as goal

pub returns : goal.returns
returns c =
    let n = c.application_count.result in
    let xs = vec_items c.args.self.now.activities in
    all_from_yields_List (λ i. has_activity i xs) _ _ _ c.all.ensures.ran (YieldsList-from_range 0 n n refl (omega arith)) (λ x b q k. search (rules, tests))
    ∙ each_active n xs
    ∙ ap (λ m. all_active m xs) c.application_count.ensures

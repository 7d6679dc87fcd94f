use Rattle.std.proofs.Common.{◌≡◌, ◌-◌, leb, ap, ◌∙◌, arith}
use Rattle.arithmetic.specs.Entries.{endless}
use Rattle.arithmetic.specs.Laws.{apart}
use Rattle.arithmetic.proofs.Pairs.{test_is, test_says, and_known}
use Rattle.arithmetic.proofs.overlaps.apart.Goals as goal

pub returns-then-span-shift : goal.returns-then-span-shift
returns-then-span-shift c =
    let a = c.args.a.now in
    let b = c.args.b.now in
    let g = c.between-shift.result.divisor in
    let x = c.between-shift.result.gap in
    let s = c.span-then-span-shift.result in
    let e : leb s (g - x) ≡ apart (endless a) (endless b) =
    ap (λ s. leb s (g - x)) c.span-then-span-shift.ensures
    ∙ and_known a.span x (leb b.span (g - x)) (omega arith)
    ∙ test_is a b g x c.between-shift.ensures.divisor c.between-shift.ensures.gap in
    test_says a b (leb s (g - x)) e

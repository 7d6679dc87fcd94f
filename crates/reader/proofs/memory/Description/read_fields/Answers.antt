use Rattle.std.proofs.Common.{length, sym, refl, ◌∙◌, subst, arith}
use Rattle.reader.specs.Described.{reading_of}
use Rattle.reader.specs.Taken.{Ends}
use Rattle.reader.proofs.FieldRuns.{ends, goes_on, refused_whole, stops}
use Rattle.reader.proofs.memory.Description.read_fields.Goals as goal

pub loop-at-init : goal.loop-at-init
loop-at-init g c = (c.requires, length c.args.input.now, omega arith, refl)

pub returns-in_err-at : goal.returns-in_err-at
returns-in_err-at g c =
    let r = g.K.Kind.relations c.args.kind.now in
    let s = reading_of c.loop-at.self c.loop-at.stage in
    let stop = stops r c.args.input.now c.loop-at.invariant.1 s c.loop-at.at c.in_err-at.field-0.0 c.loop-at-test.true c.in_err-at.ensures in
    refused_whole c.from_residual.result c.in_err-at.field-0.0 c.take_field.new.self _ c.from_residual.ensures.1 (sym c.loop-at.invariant.3 ∙ stop)

pub loop-at-preserved : goal.loop-at-preserved
loop-at-preserved g c =
    let r = g.K.Kind.relations c.args.kind.now in
    let s = reading_of c.loop-at.self c.loop-at.stage in
    let goes = c.in_ok-at.ensures in
    let next = goes_on r c.args.input.now c.loop-at.invariant.1 s c.loop-at.at _ c.loop-at.invariant.2 c.loop-at-test.true goes.0 goes.2 in
    (goes.1, next.0, next.1, next.2 ∙ c.loop-at.invariant.3)

pub returns : goal.returns
returns g c =
    let r = g.K.Kind.relations c.args.kind.now in
    let s = reading_of c.loop-at.self c.loop-at.stage in
    let over = ends r c.args.input.now c.loop-at.invariant.1 s c.loop-at.at c.loop-at-test.false in
    subst (Ends c.end.result c.loop-at.self) (sym over ∙ c.loop-at.invariant.3) c.end.ensures

use Rattle.std.proofs.Common.{◌-◌, arith}
use Rattle.arithmetic.proofs.Pairs.{agree_first, agree_second, not_apart, overlapping}
use Rattle.arithmetic.proofs.overlaps.meet.Goals as goal

pub meeting-requires : goal.meeting-requires
meeting-requires c =
    let shift = c.between-shift in
    agree_first c.args.a.now c.args.b.now shift.result.divisor shift.result.gap c.beginnings.result c.beginnings-then-shift-span.result
    c.beginnings.ensures c.beginnings-then-shift-span.ensures shift.ensures.divisor shift.ensures.gap shift.ensures.limit shift.ensures.below

pub meeting-requires-else-shift-span : goal.meeting-requires-else-shift-span
meeting-requires-else-shift-span c =
    let shift = c.between-shift in
    agree_second c.args.a.now c.args.b.now shift.result.divisor shift.result.gap c.beginnings-else-shift-span.result c.beginnings-else-shift-span-2.result
    c.beginnings-else-shift-span.ensures c.beginnings-else-shift-span-2.ensures shift.ensures.divisor shift.ensures.gap shift.ensures.limit shift.ensures.below

pub returns-then-shift-span : goal.returns-then-shift-span
returns-then-shift-span c =
    overlapping c.args.a.now c.args.b.now c.meeting.result c.between-shift.result.gap 0 c.beginnings.result c.beginnings-then-shift-span.result
    c.beginnings.ensures c.beginnings-then-shift-span.ensures (omega arith) c.args.b.now.lasts c.meeting.ensures

pub returns-else-shift-span : goal.returns-else-shift-span
returns-else-shift-span c =
    let shift = c.between-shift in
    let late = not_apart c.args.a.now c.args.b.now shift.result.divisor shift.result.gap shift.ensures.divisor shift.ensures.gap c.requires (omega arith) in
    overlapping c.args.a.now c.args.b.now c.meeting-else-shift-span.result 0 (shift.result.divisor - shift.result.gap)
    c.beginnings-else-shift-span.result c.beginnings-else-shift-span-2.result
    c.beginnings-else-shift-span.ensures c.beginnings-else-shift-span-2.ensures c.args.a.now.lasts late c.meeting-else-shift-span.ensures

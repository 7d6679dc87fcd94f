use Rattle.std.proofs.Common.{mul-pos, arith}
use native.Mathlib.Nat.{pos_of_dvd_of_pos}
use Rattle.arithmetic.proofs.Meetings.{quotient_positive, least_limit, found}
use Rattle.arithmetic.proofs.progressions.meeting.Goals as goal

pub nonzero_div-round : goal.nonzero_div-round
nonzero_div-round c = pos_of_dvd_of_pos c.invert-inverse.ensures.greatest.divides_first c.requires.p_positive

pub nonzero_div-least : goal.nonzero_div-least
nonzero_div-least c = pos_of_dvd_of_pos c.invert-inverse.ensures.greatest.divides_first c.requires.p_positive

pub nonzero_rem-least : goal.nonzero_rem-least
nonzero_rem-least c = quotient_positive _ _ _ c.requires.p_positive c.requires.q_positive c.invert-inverse.ensures.greatest

pub overflow_add-a : goal.overflow_add-a
overflow_add-a c =
    let k = c.requires in
    let h = least_limit _ _ _ k.p_positive k.q_positive c.invert-inverse.ensures.greatest c.invert-inverse.result.factor c.args.a.first c.args.b.first c.gap.result 0 k.p_limit k.q_limit in
    omega (arith, k.a_limit)

pub div_ceil-requires : goal.div_ceil-requires
div_ceil-requires c = mul-pos (quotient_positive _ _ _ c.requires.p_positive c.requires.q_positive c.invert-inverse.ensures.greatest) c.requires.p_positive

pub overflow_add-first : goal.overflow_add-first
overflow_add-first c =
    let r = found c.invert-inverse.result.factor c.requires c.invert-inverse.ensures.greatest c.gap.ensures.value c.invert-inverse.ensures.solves c.saturating_sub-behind.ensures c.div_ceil.ensures in
    omega (arith, r.meet.first_bound, c.requires)

pub overflow_mul-result : goal.overflow_mul-result
overflow_mul-result c =
    let r = found c.invert-inverse.result.factor c.requires c.invert-inverse.ensures.greatest c.gap.ensures.value c.invert-inverse.ensures.solves c.saturating_sub-behind.ensures c.div_ceil.ensures in
    omega (arith, r.reach, c.requires)

pub overflow_add-result : goal.overflow_add-result
overflow_add-result c =
    let r = found c.invert-inverse.result.factor c.requires c.invert-inverse.ensures.greatest c.gap.ensures.value c.invert-inverse.ensures.solves c.saturating_sub-behind.ensures c.div_ceil.ensures in
    omega (arith, r.reach, c.requires)

pub overflow_sub-result : goal.overflow_sub-result
overflow_sub-result c =
    let r = found c.invert-inverse.result.factor c.requires c.invert-inverse.ensures.greatest c.gap.ensures.value c.invert-inverse.ensures.solves c.saturating_sub-behind.ensures c.div_ceil.ensures in
    omega (arith, r.meet.same)

pub returns : goal.returns
returns c =
    (found c.invert-inverse.result.factor c.requires c.invert-inverse.ensures.greatest c.gap.ensures.value c.invert-inverse.ensures.solves c.saturating_sub-behind.ensures c.div_ceil.ensures).meet

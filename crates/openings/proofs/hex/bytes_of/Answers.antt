use Rattle.std.proofs.Common.{◌≡◌, ◌<◌, false, length, get_or, Some, take, take_all, sym, ◌∙◌, arith}
use Rattle.openings.specs.Hex.{is_blank, digit_of}
use Rattle.openings.proofs.HexRuns.{waits, completes, stops, ends_odd, solid}
use Rattle.openings.proofs.hex.bytes_of.Goals as goal
use Rattle.openings.proofs.hex.bytes_of.Goals.{in-None, in-Some-high+in_ok-push-in-Some-high}

pub returns-in_default : goal.returns-in_default
returns-in_default c =
    let line = c.args.line.now in
    let i = c.loop-c.c-index in
    let lt : i < length line = omega arith in
    stops line i lt (solid (get_or line i 0) c.if-c-eq32.false c.if-c-eq10.false c.if-c-eq13.false) (sym c.digit.ensures.value ∙ c.in_default.is)

pub loop-c-preserved : goal.loop-c-preserved
loop-c-preserved c =
    let line = c.args.line.now in
    let i = c.loop-c.c-index in
    let bytes = c.loop-c.bytes.items in
    let low = c.in-Some.low in
    let lt : i < length line = omega arith in
    let dark : is_blank (get_or line i 0) ≡ false = solid (get_or line i 0) c.if-c-eq32.false c.if-c-eq10.false c.if-c-eq13.false in
    let is : digit_of (get_or line i 0) ≡ Some low = sym c.digit.ensures.value ∙ c.in-Some.is in
    elim c.match-high.branch [
      | in-None w ↦ rw (w.bytes-is, w.high-is) (record { reads = waits line i lt bytes low dark is (rw w.in-None.is at c.loop-c.invariant.reads); low = c.in-Some.ensures.bound })
      | in-Some-high+in_ok-push-in-Some-high w ↦
          let high = w.in-Some-high.first in
          let small : high < 16 = rw w.in-Some-high.is at c.loop-c.invariant.low in
          rw (w.bytes-is, w.high-is, w.in_ok-push-in-Some-high.ensures.items) (record {
            reads = completes line i lt bytes high low _ dark is small c.in-Some.ensures.bound (omega arith) (rw w.in-Some-high.is at c.loop-c.invariant.reads);
            low = tt;
          })
    ]

pub returns-then-is_some : goal.returns-then-is_some
returns-then-is_some c =
    let line = c.args.line.now in
    let i = c.loop-c.c-index in
    let whole : take i line ≡ line = take_all i line (omega arith) in
    ends_odd line c.loop-c.bytes.items c.loop-c.high (sym c.if-is_some.ensures) (rw whole at c.loop-c.invariant.reads)

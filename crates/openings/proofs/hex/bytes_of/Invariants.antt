use Rattle.std.proofs.Common.{◌<◌, take, IfSome}
use Rattle.openings.proofs.HexRuns.{Reads}
use Rattle.openings.proofs.hex.bytes_of.Given as goal

abbrev pub invariant-loop-c : goal.invariant-loop-c
invariant-loop-c l = record { reads : Reads (take l.c-index l.line) l.bytes.items l.high; low : IfSome l.high (λ d. d < 16) }

-- Two kinds side by side: the first answers for the numbers that it knows, the second for the rest.
use Rattle.std.specs.Prelude.{cond, ◌||◌}
use Rattle.kinds.specs.Relations.{Relations}

abbrev pub beside : Relations → Relations → Relations
beside a b = record {
  known = λ k. a.known k || b.known k;
  sound = λ k. cond (a.known k) (a.sound k) (b.sound k);
  span = λ k. cond (a.known k) (a.span k) (b.span k);
  admits = λ k. cond (a.known k) (a.admits k) (b.admits k);
  bars = λ k. cond (a.known k) (a.bars k) (b.bars k);
}

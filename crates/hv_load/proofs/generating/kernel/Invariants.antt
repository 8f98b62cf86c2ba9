use Rattle.std.proofs.Common.{◌≡◌}
use Rattle.hv_load.specs.Generator.{additions, number_at}
use Rattle.hv_load.proofs.generating.kernel.Given as goal

abbrev pub invariant-loop-place : goal.invariant-loop-place
invariant-loop-place l = record {
  words : l.words.items ≡ additions l.fn.seed l.place;
  number : l.number ≡ number_at l.fn.seed l.place;
}

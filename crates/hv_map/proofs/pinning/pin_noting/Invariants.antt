use Rattle.std.proofs.Common.{◌≡◌, length, drop}
use Rattle.hv_map.specs.Chain.{pin_of}
use Rattle.hv_map.specs.Gathered.{pin_pages, with_pages}
use Rattle.hv_map.proofs.Pins.{rest_of}
use Rattle.hv_map.proofs.pinning.pin_noting.Given as goal

abbrev pub invariant-loop-syllable : goal.invariant-loop-syllable
invariant-loop-syllable l = record {
  level : length l.chain ≡ l.syllable-index;
  rest : rest_of l.store l.chain (drop l.syllable-index l.syllable-items) ≡ pin_of l.store l.fn.path;
  listed : l.tables ≡ with_pages l.fn.tables (pin_pages l.store l.chain);
}

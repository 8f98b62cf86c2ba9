use Rattle.std.proofs.Common.{◌≡◌, ◌*◌, length}
use Rattle.hv_map.specs.Chain.{map_along}
use Rattle.hv_twin.proofs.Copies.{copied}
use Rattle.hv_twin.proofs.copying.seen.Given as goal

abbrev pub invariant-loop-page : goal.invariant-loop-page
invariant-loop-page l = record {
  pages : l.copy ≡ copied l.store (map_along l.store l.chain) l.page;
  len : length l.copy ≡ 1024 * l.pages;
}

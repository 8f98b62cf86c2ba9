use Rattle.std.proofs.Common.{◌≡◌, ◌+◌, ◌-◌, ◌<◌, Some, length}
use Rattle.std.specs.List.{All}
use Rattle.hv_word.specs.Storage.{page_count}
use Rattle.hv_map.specs.Chain.{map_along}
use Rattle.hv_load.specs.Directives.{pages_along}
use Rattle.hv_load.specs.Finding.{in_front}
use Rattle.hv_load.specs.Pages.{each_from, writes_in}
use Rattle.hv_load.proofs.making.Layout.taken.Given as goal

-- the pages so far and those that are left are those of the machine
abbrev pub invariant-loop-k : goal.invariant-loop-k
invariant-loop-k l = record {
  left :
      in_front l.pages.items (each_from (writes_in (Some (map_along l.store l.chain))) (l.self.table + l.k) (l.count - l.k))
      ≡ pages_along (Some (map_along l.store l.chain)) l.self.block l.self.pages l.self.table;
  within : All (λ g. g < page_count l.store) l.pages.items;
  number : length l.pages.items ≡ l.k + 1;
}

use Rattle.std.proofs.Common.{take}
use Rattle.hv_map.specs.Apart.{open_pages}
use Rattle.hv_map.specs.Chain.{map_along}
use Rattle.hv_map.specs.Tables.{IsCacheOf}
use Rattle.hv_apart.specs.Added.{Added}
use Rattle.hv_apart.proofs.standing.add_pages.Given as goal

abbrev pub invariant-loop-page : goal.invariant-loop-page
invariant-loop-page l =
    Added l.initial.marks l.marks (open_pages (take l.page (map_along l.store l.chain))) × IsCacheOf l.store l.chain l.cache

use Rattle.std.proofs.Common.{take}
use Rattle.hv_map.specs.Chain.{map_along}
use Rattle.hv_map.specs.Tables.{IsCacheOf}
use Rattle.hv_nest.specs.Watched.{page_foot}
use Rattle.hv_apart.specs.Marked.{Joined}
use Rattle.hv_apart.proofs.foot.put_pages.Given as goal

abbrev pub invariant-loop-page : goal.invariant-loop-page
invariant-loop-page l =
    Joined l.initial.words l.words (page_foot (take l.page (map_along l.store l.chain))) × IsCacheOf l.store l.chain l.cache

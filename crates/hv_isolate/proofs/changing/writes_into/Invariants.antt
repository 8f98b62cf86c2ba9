use Rattle.std.proofs.Common.{◌≡◌, take}
use Rattle.std.specs.List.{list_any}
use Rattle.hv_map.specs.Chain.{map_along}
use Rattle.hv_apart.specs.Marked.{is_marked}
use Rattle.hv_isolate.specs.May.{written_pages}
use Rattle.hv_isolate.proofs.changing.writes_into.Given as goal

abbrev pub invariant-loop-page : goal.invariant-loop-page
invariant-loop-page l =
    l.found ≡ list_any (is_marked l.marks.words) (written_pages (take l.page (map_along l.store l.chain)))

use Rattle.hv_word.specs.Storage.{page_count}
use Rattle.hv_map.specs.Chain.{map_along}
use Rattle.hv_move.proofs.Writing.{AreFound}
use Rattle.hv_move.proofs.placing.find_hosts.Given as goal

abbrev pub invariant-loop-page : goal.invariant-loop-page
invariant-loop-page l = AreFound (page_count l.store) (map_along l.store l.chain) l.hosts l.page

use Rattle.std.proofs.Common.{◌*◌, length, min}
use Rattle.hv_map.specs.Chain.{map_along}
use Rattle.hv_map.specs.Tables.{IsCacheOf}
use Rattle.hv_apart.specs.Marked.{Joined}
use Rattle.hv_apart.specs.Table.{item_of_chain, table_places}
use Rattle.hv_apart.proofs.foot.put_tables.Given as goal

abbrev pub invariant-loop-k : goal.invariant-loop-k
invariant-loop-k l =
    Joined l.initial.words l.words
    (table_places l.store (map_along l.store l.chain) (length l.chain) (item_of_chain l.child) (min l.child.pages (1024 * l.k)))
    × IsCacheOf l.store l.chain l.cache

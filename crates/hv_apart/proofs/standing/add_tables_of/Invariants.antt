use Rattle.std.proofs.Common.{◌++◌, length}
use Rattle.hv_map.specs.Apart.{directory_of}
use Rattle.hv_map.specs.Chain.{map_along}
use Rattle.hv_map.specs.Tables.{IsCacheOf}
use Rattle.hv_apart.specs.Added.{Added}
use Rattle.hv_apart.specs.Table.{item_of_chain, first_tables}
use Rattle.hv_apart.proofs.standing.add_tables_of.Given as goal

abbrev pub invariant-loop-k : goal.invariant-loop-k
invariant-loop-k l =
    Added l.fn.marks l.marks
    (directory_of (map_along l.store l.chain) (item_of_chain l.child)
    ++ first_tables l.store (map_along l.store l.chain) (length l.chain) (item_of_chain l.child) l.k)
    × IsCacheOf l.store l.chain l.cache

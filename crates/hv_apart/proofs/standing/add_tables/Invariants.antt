use Rattle.std.proofs.Common.{take}
use Rattle.hv_word.specs.Storage.{page_count}
use Rattle.hv_store.specs.Access.{identity}
use Rattle.hv_map.specs.Apart.{tables_along}
use Rattle.hv_apart.specs.Added.{Added}
use Rattle.hv_apart.proofs.standing.add_tables.Given as goal

abbrev pub invariant-loop-level : goal.invariant-loop-level
invariant-loop-level l =
    Added l.initial.marks l.marks (tables_along l.store (identity (page_count l.store)) 0 (take l.level l.chain))

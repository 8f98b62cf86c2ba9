use Rattle.std.proofs.Common.{take}
use Rattle.hv_word.specs.Storage.{page_count}
use Rattle.hv_store.specs.Access.{identity}
use Rattle.hv_nest.specs.Watched.{chain_foot}
use Rattle.hv_apart.specs.Marked.{Joined}
use Rattle.hv_apart.proofs.foot.put_items.Given as goal

abbrev pub invariant-loop-level : goal.invariant-loop-level
invariant-loop-level l =
    Joined l.initial.words l.words (chain_foot l.store (identity (page_count l.store)) 0 (take l.level l.chain))

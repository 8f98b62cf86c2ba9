use Rattle.std.proofs.Common.{ℕ, List, ◌<◌, IfSome, sym, subst}
use Rattle.hv_word.specs.Storage.{page_count}
use Rattle.hv_map.proofs.Machines.{pinned_own}
use Rattle.hv_debug.proofs.counter.has_counter.Goals as goal

pub counter_in-requires-clause-block : goal.counter_in-requires-clause-block
counter_in-requires-clause-block g c =
    let S = c.parked-store.result.now in
    subst (λ (T : List ℕ). IfSome c.last_block.result (λ block. block < page_count T)) c.parked-store.ensures
    (c.last_block.ensures.within S (pinned_own S c.args.stop.now.path c.in-Some.chain (sym c.in-Some.ensures)))

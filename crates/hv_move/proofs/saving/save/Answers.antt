use Rattle.hv_map.specs.Chain.{map_along}
use Rattle.hv_move.proofs.Copying.{next_seen}
use Rattle.hv_move.proofs.saving.save.Goals as goal

pub parked-requires : goal.parked-requires
parked-requires c =
    next_seen c.args.store.now c.in-Ok.copy (map_along c.args.store.now c.args.chain.now) c.cpu_of-cpu.result c.in-Ok.ensures c.cpu_of-cpu.ensures.next

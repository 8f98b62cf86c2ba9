use Rattle.std.proofs.Common.{sym}
use Rattle.hv_map.proofs.Machines.{pinned_own}
use Rattle.hv_top.proofs.saving.parked.Goals as goal

pub inner_parked-requires-clause-pinned : goal.inner_parked-requires-clause-pinned
inner_parked-requires-clause-pinned g c =
    pinned_own c.parked-store.result.now c.args.watch.now.path c.in-Some.chain (sym c.in-Some.ensures)

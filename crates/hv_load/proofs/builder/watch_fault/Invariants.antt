use Rattle.std.proofs.Common.{◌≡◌, drop}
use Rattle.hv_load.specs.Build.{watch_fault}
use Rattle.hv_load.proofs.builder.watch_fault.Given as goal

-- the machines that were passed can be watched
abbrev pub invariant-loop-asked : goal.invariant-loop-asked
invariant-loop-asked l = watch_fault l.store (drop l.asked-index l.watches) ≡ watch_fault l.store l.watches

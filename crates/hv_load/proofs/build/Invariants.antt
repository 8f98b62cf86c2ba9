use Rattle.std.proofs.Common.{◌≡◌, drop}
use Rattle.hv_load.specs.Build.{built_from}
use Rattle.hv_load.specs.Building.{nothing_built}
use Rattle.hv_load.proofs.build.Given as goal

-- the lines that are left come to the same
abbrev pub invariant-loop-placed : goal.invariant-loop-placed
invariant-loop-placed l =
    built_from l.builder (drop l.placed-index l.placed-items) ≡ built_from (nothing_built l.job.pages l.job.harts) l.job.lines

use Rattle.std.proofs.Common.{◌≡◌, ◌≤◌, ◌+◌, ◌*◌}
use Rattle.hv_limits.specs.Limits.{pages_limit}
use Rattle.hv_load.specs.Tower.{grown}
use Rattle.hv_load.proofs.levels.grown.Given as goal

abbrev pub invariant-loop-level : goal.invariant-loop-level
invariant-loop-level l = record { size : l.size ≡ grown l.level l.pages; bound : l.size ≤ pages_limit + 32 * l.level }

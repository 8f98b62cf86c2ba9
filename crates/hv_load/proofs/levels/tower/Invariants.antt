use Rattle.std.proofs.Common.{◌≡◌, ◌-◌, ◌++◌}
use Rattle.hv_load.specs.Tower.{levels_from, tower_of}
use Rattle.hv_load.proofs.levels.tower.Given as goal

-- the levels that are left complete the tower
abbrev pub invariant-loop-level : goal.invariant-loop-level
invariant-loop-level l =
    l.parts.items ++ levels_from l.line l.pages l.which l.level (l.depth - l.level) ≡ tower_of l.depth l.pages l.which l.line

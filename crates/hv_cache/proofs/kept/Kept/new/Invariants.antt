-- The blocks so far are those of the machines so far.
use Rattle.std.proofs.Common.{◌≡◌, take}
use Rattle.hv_map.specs.Apart.{blocks_of}
use Rattle.hv_cache.proofs.kept.Kept.new.Given as goal

abbrev pub invariant-loop-i : goal.invariant-loop-i
invariant-loop-i l = l.blocks.items ≡ take l.i (blocks_of l.chain)

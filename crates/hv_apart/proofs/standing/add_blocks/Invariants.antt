use Rattle.std.proofs.Common.{take}
use Rattle.hv_map.specs.Apart.{blocks_of}
use Rattle.hv_apart.specs.Added.{Added}
use Rattle.hv_apart.proofs.standing.add_blocks.Given as goal

abbrev pub invariant-loop-i : goal.invariant-loop-i
invariant-loop-i l = Added l.initial.marks l.marks (blocks_of (take l.i l.chain))

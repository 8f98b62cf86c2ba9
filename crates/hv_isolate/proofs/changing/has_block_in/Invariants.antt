use Rattle.std.proofs.Common.{◌≡◌, take}
use Rattle.std.specs.List.{list_any}
use Rattle.hv_map.specs.Apart.{blocks_of}
use Rattle.hv_apart.specs.Marked.{is_marked}
use Rattle.hv_isolate.proofs.changing.has_block_in.Given as goal

abbrev pub invariant-loop-level : goal.invariant-loop-level
invariant-loop-level l = l.found ≡ list_any (is_marked l.marks.words) (blocks_of (take l.level l.chain))

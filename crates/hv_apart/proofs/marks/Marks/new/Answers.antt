-- At first there are no pages.
use Rattle.std.proofs.Common.{◌/◌, refl}
use Rattle.hv_limits.specs.Limits.{pages_limit}
use Rattle.hv_map.specs.Apart.{are_distinct}
use Rattle.hv_apart.proofs.BitSets.{marks_none}
use Rattle.hv_apart.proofs.marks.Marks.new.Goals as goal

pub returns : goal.returns
unfolding are_distinct
returns c = record { set = marks_none (pages_limit / 32); apart = refl }

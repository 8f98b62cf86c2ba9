use Rattle.std.proofs.Common.{◌*◌}
use Rattle.std.specs.List.{range_with_len}
use Rattle.hv_nest.specs.Watched.{places}
use Rattle.hv_apart.specs.Marked.{Joined}
use Rattle.hv_apart.proofs.foot.put_page.Given as goal

abbrev pub invariant-loop-k : goal.invariant-loop-k
invariant-loop-k l = Joined l.initial.words l.words (places l.page (range_with_len 0 (32 * l.k)))

use Rattle.std.proofs.Common.{◌-◌, length}
use Rattle.hv_limits.specs.Limits.{depth_limit}
use Rattle.hv_fast.proofs.Follows.{SoFar}
use Rattle.hv_fast.proofs.following.follow.Given as goal

abbrev pub invariant-loop-page : goal.invariant-loop-page
invariant-loop-page l = SoFar l.store l.fn.cpu l.regs l.chain l.tables

abbrev pub decreases-loop-page : goal.decreases-loop-page
decreases-loop-page l = depth_limit - length l.chain

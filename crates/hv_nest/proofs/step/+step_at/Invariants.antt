use Rattle.std.proofs.Common.{◌-◌, length}
use Rattle.hv_limits.specs.Limits.{depth_limit}
use Rattle.hv_nest.proofs.step.+step_at.Given as goal

abbrev pub decreases-step_at : goal.decreases-step_at
decreases-step_at l = depth_limit - length l.chain.now

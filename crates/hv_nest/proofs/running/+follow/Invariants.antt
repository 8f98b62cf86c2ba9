use Rattle.std.proofs.Common.{◌-◌, length}
use Rattle.hv_limits.specs.Limits.{depth_limit}
use Rattle.hv_nest.proofs.running.+follow.Given as goal

abbrev pub decreases-follow : goal.decreases-follow
decreases-follow l = depth_limit - length l.chain.now

-- Before the instruction nothing is noted.
use Rattle.std.proofs.Common.{ap}
use Rattle.hv_nest.specs.Notes.{is_exact}
use Rattle.hv_nest.proofs.step.act_along.Goals as goal

pub invariant_of-noting : goal.invariant_of-noting
unfolding is_exact
invariant_of-noting c = record { exact = ap (is_exact c.args.store.now) c.requires.fresh }

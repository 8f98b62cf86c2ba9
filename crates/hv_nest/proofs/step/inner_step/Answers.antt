-- What is changed is what the step's definition changes.
use Rattle.std.proofs.Common.{◌∙◌}
use Rattle.hv_nest.proofs.Rows.{host_is}
use Rattle.hv_nest.proofs.Frames.{host_framed}
use Rattle.hv_nest.proofs.step.inner_step.Goals as goal

pub returns-clause-frame : goal.returns-clause-frame
returns-clause-frame c =
    host_framed c.args.store.now c.step_at.new.store c.args.hart c.args.cpu.now c.step_at.new.cpu c.in-Ok.kind
    (c.in-Ok.ensures.steps ∙ host_is c.args.store.now c.new.result c.args.hart c.args.cpu.now c.new.ensures)

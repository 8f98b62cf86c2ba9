-- What is changed is what the step's definition changes.
use Rattle.std.proofs.Common.{ap, ◌∙◌, sym}
use Rattle.hv_nest.specs.declared.outcome.StepKind.TheVariants.{Worked as WorkedKind}
use Rattle.hv_nest.specs.Step.{Worked}
use Rattle.hv_nest.proofs.Rows.{host_acts, host_traps}
use Rattle.hv_nest.proofs.Frames.{host_framed}
use Rattle.hv_nest.proofs.step.bare_step.Goals as goal

pub returns-in-Some-clause-frame : goal.returns-in-Some-clause-frame
returns-in-Some-clause-frame c =
    host_framed c.args.store.now c.args.store.now c.args.hart c.args.cpu.now c.take_trap.new.cpu WorkedKind
    (ap (Worked c.args.store.now) c.take_trap.ensures
    ∙ sym (host_traps c.args.store.now c.args.hart c.args.cpu.now c.in-Some.cause c.in-Some.ensures.takes c.requires.idle))

pub returns-clause-frame : goal.returns-clause-frame
returns-clause-frame c =
    host_framed c.args.store.now c.act_bare.new.store c.args.hart c.args.cpu.now c.act_bare.new.cpu WorkedKind
    (c.act_bare.ensures.acts ∙ sym (host_acts c.args.store.now c.args.hart c.args.cpu.now c.in_default.ensures.takes c.requires.idle))

use Rattle.std.proofs.Common.{◌∙◌, refl, sym}
use Rattle.hv_nest.specs.Bare.{alone}
use Rattle.hv_nest.specs.Move.{StepOf}
use Rattle.hv_twin.proofs.Moves.{last_none, last_more}
use Rattle.hv_twin.proofs.alone.run.Goals as goal

pub loop-step-init : goal.loop-step-init
loop-step-init c = record {
  state = sym (last_none (alone c.args.store.now c.args.cpu.now));
  next = c.requires;
  len = refl;
}

pub loop-step-preserved : goal.loop-step-preserved
loop-step-preserved c = record {
  state = last_more (alone c.args.store.now c.args.cpu.now) (alone c.loop-step.store c.loop-step.cpu) (alone c.step.new.store c.step.new.cpu) c.loop-step._step (StepOf 0) c.loop-step.invariant.state c.step.ensures.state;
  next = c.step.ensures.next;
  len = c.step.ensures.len ∙ c.loop-step.invariant.len;
}

use Rattle.std.proofs.Common.{refl, sym, subst, OnOk}
use Rattle.hv_line.specs.declared.types.DebugCommand.{DebugCommand}
use Rattle.hv_debug.specs.Reaching.{Becomes}
use Rattle.hv_debug.specs.Transcript.{after_command}
use Rattle.hv_debug.proofs.Sessions.{stays}
use Rattle.hv_debug.proofs.debugger.Debugger.answer.Goals as goal

pub returns-in-Step-clause-goes : goal.returns-in-Step-clause-goes
returns-in-Step-clause-goes g c =
    subst
    (λ (w : DebugCommand). OnOk c.step.result (Becomes (λ start s. after_command start c.args.names.now s w) c.args.self.now (g.N.Nested.state c.args.nested.now) c.step.new.self (g.N.Nested.state c.step.new.nested)))
    (sym c.in-Step.is)
    c.step.ensures.goes

pub returns-in-Break-clause-way : goal.returns-in-Break-clause-way
returns-in-Break-clause-way g c =
    stays c.args.self.now (g.N.Nested.state c.args.nested.now) (g.N.Nested.state c.args.nested.now) refl

pub returns-in-Regs-clause-way : goal.returns-in-Regs-clause-way
returns-in-Regs-clause-way g c =
    stays c.args.self.now (g.N.Nested.state c.args.nested.now) (g.N.Nested.state c.args.nested.now) refl

pub returns-in-Mem-clause-way : goal.returns-in-Mem-clause-way
returns-in-Mem-clause-way g c =
    stays c.args.self.now (g.N.Nested.state c.args.nested.now) (g.N.Nested.state c.args.nested.now) refl

pub returns-in-Path-clause-way : goal.returns-in-Path-clause-way
returns-in-Path-clause-way g c =
    stays c.args.self.now (g.N.Nested.state c.args.nested.now) (g.N.Nested.state c.put_running.new.nested) c.put_running.ensures.same

pub returns-in-Map-clause-way : goal.returns-in-Map-clause-way
returns-in-Map-clause-way g c =
    stays c.args.self.now (g.N.Nested.state c.args.nested.now) (g.N.Nested.state c.args.nested.now) refl

pub returns-in-Faults-clause-way : goal.returns-in-Faults-clause-way
returns-in-Faults-clause-way g c =
    stays c.args.self.now (g.N.Nested.state c.args.nested.now) (g.N.Nested.state c.args.nested.now) refl

use Rattle.std.proofs.Common.{[], ◌∷◌, ap, sym, ◌∙◌}
use Rattle.hv_trace.specs.Check.{steps_in}
use Rattle.hv_trace.specs.declared.row.TraceRow.{TraceRow}
use Rattle.hv_trace.proofs.Led.{steps_line, steps_step}
use Rattle.hv_trace.proofs.checking.steps_of.Goals as goal

pub returns-in-Lines-clause-is : goal.returns-in-Lines-clause-is
returns-in-Lines-clause-is c =
    sym (ap (λ (row : TraceRow). steps_in (row ∷ [])) c.in-Lines.is ∙ steps_line c.in-Lines.mask)

pub returns-in-Step-clause-is : goal.returns-in-Step-clause-is
returns-in-Step-clause-is c =
    sym (ap (λ (row : TraceRow). steps_in (row ∷ [])) c.in-Step.is ∙ steps_step c.in-Step.pc c.in-Step.len c.in-Step.regs c.in-Step.mem)
